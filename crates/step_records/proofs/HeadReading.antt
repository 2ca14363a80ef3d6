-- The parts of a head that is read, one after the other.
use Rattle.std.proofs.Common.{◌≡◌, ◌∙◌, List, ℕ, [], ◌++◌, ap, subst, sym}
use Rattle.std.specs.Prelude.{IfOk, OnOk, Option, Result, Ok}
use Rattle.std.proofs.lemmas.List.{append-nil}
use Rattle.node_names.specs.NodeName.{Name}
use Rattle.node_names.specs.Limits.{Limits}
use Rattle.node_names.specs.declared.ids.Origin.{Origin}
use Rattle.frames.specs.Field.{name_octets, origin_octets}
use Rattle.step_records.specs.Bodies.{contact_text, head_text, limits_text, peers_text}
use Rattle.step_records.specs.declared.head.Head.{Head}

-- what holds of an answer that is there
pub ok_part : {X E : Type 0} (result : Result X E) (x : X) (P : X → Type 0) → result ≡ Ok x → IfOk result P → P x
ok_part result x P is p = subst (λ r. IfOk r P) is p

pub ok_fact : {X E : Type 0} (result : Result X E) (x : X) (P : Type 0) → result ≡ Ok x → OnOk result P → P
ok_fact result x P is p = subst (λ r. OnOk r P) is p

-- what five readers took, who left nothing
pub head_read : (head : Head) (bytes : List ℕ) (label : Name) (a : List ℕ) (origin : Origin) (b : List ℕ) (limits : Limits) (c : List ℕ)
    (peers : List Name) (d : List ℕ) (contact : Option Name) (e : List ℕ) →
    bytes ≡ name_octets label ++ a →
    a ≡ origin_octets origin ++ b →
    b ≡ limits_text limits ++ c →
    c ≡ peers_text peers ++ d →
    d ≡ contact_text contact ++ e →
    e ≡ [] →
    head.label ≡ label →
    head.origin ≡ origin →
    head.limits ≡ limits →
    head.peers ≡ peers →
    head.contact ≡ contact →
    bytes ≡ head_text head
head_read head bytes label a origin b limits c peers d contact e one two three four five end its_label its_origin its_limits its_peers its_contact =
    let last : d ≡ contact_text head.contact =
    five ∙ ap (λ (t : List ℕ). contact_text contact ++ t) end ∙ append-nil (contact_text contact) ∙ ap contact_text (sym its_contact) in
    let fourth : c ≡ peers_text head.peers ++ contact_text head.contact =
    four ∙ ap (λ (t : List ℕ). peers_text peers ++ t) last ∙ ap (λ (ps : List Name). peers_text ps ++ contact_text head.contact) (sym its_peers) in
    let third : b ≡ limits_text head.limits ++ (peers_text head.peers ++ contact_text head.contact) =
    three ∙ ap (λ (t : List ℕ). limits_text limits ++ t) fourth
    ∙ ap (λ (l : Limits). limits_text l ++ (peers_text head.peers ++ contact_text head.contact)) (sym its_limits) in
    let second : a ≡ origin_octets head.origin ++ (limits_text head.limits ++ (peers_text head.peers ++ contact_text head.contact)) =
    two ∙ ap (λ (t : List ℕ). origin_octets origin ++ t) third
    ∙ ap (λ (o : Origin). origin_octets o ++ (limits_text head.limits ++ (peers_text head.peers ++ contact_text head.contact))) (sym its_origin) in
    one ∙ ap (λ (t : List ℕ). name_octets label ++ t) second
    ∙ ap (λ (l : Name). name_octets l ++ (origin_octets head.origin ++ (limits_text head.limits ++ (peers_text head.peers ++ contact_text head.contact))))
    (sym its_label)
