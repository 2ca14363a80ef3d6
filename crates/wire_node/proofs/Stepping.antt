-- A step, put together.
use Rattle.std.specs.Prelude.{◌≡◌, Bool, true, false, List, [], ◌∷◌, ◌++◌, Option, None, Result, Ok}
use Rattle.std.specs.Prelude.{Err, OnErr, OnOk, get_or, is_err, map, not, drop, refl, if◌then◌else◌}
use Rattle.std.proofs.Common.{◌∙◌, ap, subst, sym}
use Rattle.std.proofs.lemmas.List.{append-nil}
use Rattle.node_names.specs.NodeName.{Name}
use Rattle.node_names.specs.Same.{same_name}
use Rattle.protocol.specs.Delivery.{Delivery}
use Rattle.protocol.specs.Output.{Output, Stepped}
use Rattle.protocol.specs.Stimulus.{Stimulus}
use Rattle.frames.specs.Frame.{Frame}
use Rattle.node_core.specs.Plum.{Plum, plum_state}
use Rattle.node_core.specs.Steps.{PlumSteps}
use Rattle.wire_node.specs.Acting.{Acts, AreSettled, machine, without}
use Rattle.node_core.specs.News.{Telling, all_news}
use Rattle.wire_node.specs.Recording.{Noted, with_step}
use Rattle.wire_node.specs.Waiting.{AreApart, Waiting, all_drafted, mail_for, settled, settled_for, undrafted}
use Rattle.node_core.specs.declared.news.News.{News}
use Rattle.wire_node.proofs.Apart.{apart_all, apart_settled, apart_without}
use Rattle.wire_node.proofs.Drafting.{settled_rest, waits_more}
use Rattle.node_core.proofs.NewsLemmas.{TellsOf}

pub on_err : {X E : Type 0} (P : Type 0) (r : Result X E) → P → OnErr r P
on_err P (Ok x) h = tt
on_err P (Err x) h = h

pub on_ok : {X E : Type 0} (P : Type 0) (r : Result X E) → is_err r ≡ false → OnOk r P → P
on_ok P (Ok x) e h = h
on_ok P (Err x) e h = absurd cc

pub at_err : {X E : Type 0} (P : Type 0) (r : Result X E) → is_err r ≡ true → OnErr r P → P
at_err P (Ok x) e h = absurd cc
at_err P (Err x) e h = h

same_out : (out : Output Frame) (sends : List (Name × Frame)) (given : List Delivery) →
    out.sends ≡ sends →
    out.deliveries ≡ given →
    out ≡ record { sends = sends; deliveries = given }
same_out out sends given a b =
    ap (λ (s : List (Name × Frame)). record { sends = s; deliveries = out.deliveries }) a
    ∙ ap (λ (g : List Delivery). record { sends = sends; deliveries = g }) b

-- what the core's step gave waits now, and its news are told
pub step_acts : (core core' after : Plum) (olds news : List Waiting) (pending pending' : List Delivery)
    (noted noted' : Option Noted) (telling telling' : Telling) (s s' : Stimulus Frame) (none out : Output Frame)
    → Stepped PlumSteps core s' none after out → s' ≡ s → none.sends ≡ [] → none.deliveries ≡ [] → core' ≡ after
    → AreSettled olds → news ≡ map settled (all_drafted olds out.sends) → pending' ≡ pending ++ out.deliveries
    → noted' ≡ with_step noted (record { stimulus = s; out = out })
    → TellsOf s telling (plum_state core).active telling' (plum_state after).active
    → Acts (machine core olds pending noted telling) s (machine core' news pending' noted' telling')
step_acts core core' after olds news pending pending' noted noted' telling telling' s
    s' none out st its no_sends no_deliveries advanced rest waits delivers notes tells =
    let sent : out.sends ≡ st.sends = st.sent ∙ ap (λ (t : List (Name × Frame)). t ++ st.sends) no_sends in
    let given : out.deliveries ≡ st.given = st.delivered ∙ ap (λ (t : List Delivery). t ++ st.given) no_deliveries in
    let its_tells : TellsOf s telling (plum_state core).active telling' (plum_state core').active =
    subst (λ (c : Plum). TellsOf s telling (plum_state core).active telling' (plum_state c).active) (sym advanced) tells in
    record {
      out = record { sends = st.sends; deliveries = st.given };
      stepped = subst (λ c. PlumSteps core s st.sends st.given c) (sym advanced) (subst (λ t. PlumSteps core t st.sends st.given after) its st.stepped);
      waits =
          λ name. ap (λ (ws : List Waiting). settled_for ws name) waits
          ∙ waits_more olds out.sends name rest.0
          ∙ ap (λ (t : List (Name × Frame)). settled_for olds name ++ mail_for t name) sent;
      delivers = delivers ∙ ap (λ (t : List Delivery). pending ++ t) given;
      notes = notes ∙ ap (λ (o : Output Frame). with_step noted (record { stimulus = s; out = o })) (same_out out st.sends st.given sent given);
      tells = its_tells.tells;
      goes_on = its_tells.goes_on;
    }

-- the same machine, once news are worked out
pub settled_machine : (core : Plum) (waiting : List Waiting) (pending : List Delivery) (noted : Option Noted) (old new : Telling) →
    new ≡ record { tells = old.tells; news = all_news old (plum_state core).active; last = None }
    → machine core waiting pending noted new ≡ machine core waiting pending noted old
settled_machine core waiting pending noted old new is =
    ap (λ (t : Telling). machine core waiting pending noted t) is
    ∙ ap (λ (l : List News). record (machine core waiting pending noted old) { news = l }) (append-nil (all_news old (plum_state core).active))

-- the same machine, where each part is the same
pub same_machine : (core core' : Plum) (olds news : List Waiting) (pending pending' : List Delivery) (noted noted' : Option Noted) (telling telling' : Telling)
    → (core' ≡ core) × (news ≡ olds) × (pending' ≡ pending) × (noted' ≡ noted) × (telling' ≡ telling)
    → machine core' news pending' noted' telling' ≡ machine core olds pending noted telling
same_machine core core' olds news pending pending' noted noted' telling telling' same =
    ap (λ (c : Plum). machine c news pending' noted' telling') same.0
    ∙ ap (λ (w : List Waiting). machine core w pending' noted' telling') same.1
    ∙ ap (λ (p : List Delivery). machine core olds p noted' telling') same.2
    ∙ ap (λ (n : Option Noted). machine core olds pending n telling') same.3
    ∙ ap (λ (t : Telling). machine core olds pending noted t) same.4

pub err_then : {X E : Type 0} (P Q : Type 0) (r : Result X E) → OnErr r P → (P → Q) → OnErr r Q
err_then P Q (Ok x) h f = tt
err_then P Q (Err x) h f = f h

pub err_both : {X E : Type 0} {P Q S : Type 0} (r : Result X E) → OnErr r P → OnErr r Q → (P → Q → S) → OnErr r S
err_both (Ok x) one two goes = tt
err_both (Err x) one two goes = goes one two

-- nothing is drafted for the others, if nothing is
rest_without : (name : Name) (ws : List Waiting) → map undrafted ws ≡ ws → map undrafted (without name ws) ≡ without name ws
rest_without name [] rest = refl
rest_without name (w ∷ ws) rest =
    go (not (same_name name w.name)) (ap (λ (l : List Waiting). get_or l 0 w) rest) (rest_without name ws (ap (drop 1) rest))
  where
    go : (b : Bool) →
        undrafted w ≡ w →
        map undrafted (without name ws) ≡ without name ws →
        map undrafted (if b then w ∷ without name ws else without name ws) ≡ (if b then w ∷ without name ws else without name ws)
    go true its more = ap (λ (u : Waiting). u ∷ map undrafted (without name ws)) its ∙ ap (λ (t : List Waiting). w ∷ t) more
    go false its more = more

pub settled_without : (name : Name) (ws : List Waiting) → AreSettled ws → AreSettled (without name ws)
settled_without name ws rest = (rest_without name ws rest.0, apart_without name ws rest.1)

-- nothing is drafted once the packets of a step wait
pub settled_more : (ws : List Waiting) (sends : List (Name × Frame)) → AreApart ws → AreSettled (map settled (all_drafted ws sends))
settled_more ws sends apart = (settled_rest (all_drafted ws sends), apart_settled (all_drafted ws sends) (apart_all ws sends apart))
