use Rattle.std.proofs.Common.{◌≡◌, ◌-◌, ◌∙◌, ◌++◌, List, ℕ, [], ap, append_assoc, arith, drop, length, subst, take}
use Rattle.std.specs.Int.{w32, to_be_bytes}
use Rattle.frames.specs.Frame.{Frame}
use Rattle.frames.specs.Grammar.{IsSpelling}
use Rattle.wire_node.proofs.Heading.{gossip, spelled_by_head}
use Rattle.wire_node.proofs.heads.head_of.Goals as goal

pub returns : goal.returns
returns g c payload long =
    let s = c.args.sender in
    let n = c.args.number in
    let i = c.args.id in
    let r = c.args.round in
    let bytes = c.in_ok-bytes.bytes in
    let fields = c.fields_of-fields.result.now in
    let whole = c.in-Some.whole in
    let frame : c.in-Ok.frame ≡ gossip s n i r [] = c.in-Ok.ensures.1 ∙ ap (λ (p : List ℕ). gossip s n i r p) c.new.ensures in
    let spelled : IsSpelling (gossip s n i r []) bytes = subst (λ (f : Frame). IsSpelling f bytes) frame c.in_ok-bytes.ensures.spelled in
    let its : fields ≡ take (length bytes - 8) (drop 4 bytes) =
    subst (λ (b : List ℕ). fields ≡ take (length b - 8) (drop 4 b)) c.as_slice.ensures c.fields_of-fields.ensures in
    let one : c.extend_from_slice.new.self.items ≡ to_be_bytes w32 whole =
    c.in_ok-extend_from_slice.ensures.items ∙ ap (λ (t : List ℕ). t ++ c.in_ok-word_of.field-0) c.in_ok-head.ensures.items ∙ c.in_ok-word_of.ensures in
    let two : c.extend_from_slice-2.new.self.items ≡ to_be_bytes w32 whole ++ fields =
    c.in_ok-extend_from_slice-2.ensures.items ∙ ap (λ (t : List ℕ). t ++ fields) one in
    let head : c.extend_from_slice-3.new.self.items ≡ to_be_bytes w32 whole ++ (fields ++ to_be_bytes w32 c.args.len) =
    c.in_ok-extend_from_slice-3.ensures.items
    ∙ ap (λ (t : List ℕ). t ++ c.in_ok-word_of-2.field-0) two
    ∙ ap (λ (t : List ℕ). (to_be_bytes w32 whole ++ fields) ++ t) c.in_ok-word_of-2.ensures
    ∙ append_assoc (to_be_bytes w32 whole) fields (to_be_bytes w32 c.args.len) in
    spelled_by_head s n i r bytes fields c.extend_from_slice-3.new.self.items payload c.args.len whole spelled its
    (omega (arith, c.in-Some.ensures.1)) head long
