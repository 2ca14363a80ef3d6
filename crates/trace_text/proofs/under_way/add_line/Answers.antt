-- The messages of a frame are those of its body.
use Rattle.std.proofs.Common.{◌∙◌, ◌++◌, [], List, ℕ, ap, sym, if◌then◌else◌}
use Rattle.std.proofs.lemmas.Result.{on_ok_weaker}
use Rattle.frames.specs.Body.{Body}
use Rattle.frames.specs.Content.{body_content}
use Rattle.node_names.specs.declared.ids.MsgId.{MsgId}
use Rattle.at_rest.specs.Silence.{is_announced, is_silent}
use Rattle.trace_text.specs.Collected.{text_at}
use Rattle.trace_text.proofs.Announced.{announced_line, asked_line, gossip_line, other_line}
use Rattle.trace_text.proofs.under_way.add_line.Goals as goal

pub returns-in-Gossip : goal.returns-in-Gossip
returns-in-Gossip g c =
    on_ok_weaker c.append.result
    (λ told id. told id ∙ gossip_line id c.in-Gossip.id c.in-Gossip.round _ c.args.note.now.body
    (text_at id c.args.texts.now.entries) c.args.line.now (sym c.body.ensures.value ∙ c.in-Gossip.is))
    c.append.ensures

pub returns-in-IHave : goal.returns-in-IHave
returns-in-IHave g c =
    on_ok_weaker c.add_announced.result (λ told id.
    told id
    ∙ ap (λ (entries : List (MsgId × ℕ)). text_at id c.args.texts.now.entries ++ (if is_announced id entries then c.args.line.now else [])) c.as_slice.ensures
    ∙ announced_line id c.in-IHave.entries c.args.note.now.body
    (text_at id c.args.texts.now.entries) c.args.line.now (sym c.body.ensures.value ∙ c.in-IHave.is))
    c.add_announced.ensures

pub returns-in-Graft : goal.returns-in-Graft
returns-in-Graft g c =
    on_ok_weaker c.append-in-Graft.result
    (λ told id. told id ∙ asked_line id c.in-Graft.id c.in-Graft.round c.args.note.now.body
    (text_at id c.args.texts.now.entries) c.args.line.now (sym c.body.ensures.value ∙ c.in-Graft.is))
    c.append-in-Graft.ensures

pub returns-in_default : goal.returns-in_default
returns-in_default g c id =
    other_line id c.body.result.now (text_at id c.args.texts.now.entries) c.args.line.now c.in_default.not-Gossip c.in_default.not-IHave c.in_default.not-Graft
    ∙ ap (λ (body : Body). text_at id c.args.texts.now.entries ++ (if is_silent id (body_content body) then [] else c.args.line.now)) c.body.ensures.value
