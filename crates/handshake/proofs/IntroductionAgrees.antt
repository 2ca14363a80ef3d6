-- An Introduction is read as it is written.
use Rattle.std.proofs.Common.{◌≡◌, ℕ, List, ◌++◌, Ok, sym, ap, subst, ◌∙◌, append_assoc}
use Rattle.node_names.specs.NodeName.{Name}
use Rattle.handshake.specs.declared.address.Address.{Address}
use Rattle.handshake.specs.declared.error.HelloError.TheVariants.{BadName}
use Rattle.handshake.specs.declared.introduction.Introduction.{Introduction}
use Rattle.handshake.specs.Records.{IsIntroduction, introduction_text}
use Rattle.handshake.specs.Text.{address_text, name_text}
use Rattle.handshake.specs.Reading.{◌>>=◌, Reader, done, address, introduction}
use Rattle.handshake.proofs.Agree.{IsBytes, takes_first, again_first, again_next, done_is}
use Rattle.handshake.proofs.PartsAgree.{name_agrees, address_agrees}

-- the Introduction of these parts
abbrev of_parts : Name → Address → Introduction
of_parts n a = record { name = n; at = a }

-- what follows the name
abbrev after_name : Name → Reader Introduction
after_name n = address >>= λ a. done (of_parts n a)

pub introduction_takes : (bytes : List ℕ) (i : Introduction) (rest : List ℕ) →
    IsBytes bytes →
    introduction bytes ≡ Ok (i, rest) →
    (bytes ≡ introduction_text i ++ rest) × IsIntroduction i
unfolding introduction
introduction_takes bytes i rest small e =
    let n = takes_first (name_agrees BadName) after_name bytes i rest small e in
    let a = takes_first address_agrees (λ a. done (of_parts n.value a)) n.after i rest n.bytes_after n.then' in
    let d = done_is (of_parts n.value a.value) i a.after rest a.then' in
    let x = of_parts n.value a.value in
    let at : n.after ≡ address_text a.value ++ rest = a.parts ∙ ap (λ t. address_text a.value ++ t) d.1 in
    let whole : bytes ≡ introduction_text x ++ rest =
    n.parts ∙ ap (λ t. name_text n.value ++ t) at ∙ sym (append_assoc (name_text n.value) (address_text a.value) rest) in
    let holds : IsIntroduction x = record { name = n.fits; at = a.fits } in
    subst (λ y. (bytes ≡ introduction_text y ++ rest) × IsIntroduction y) d.0 (whole, holds)

pub introduction_again : (i : Introduction) (rest : List ℕ) → IsIntroduction i → introduction (introduction_text i ++ rest) ≡ Ok (i, rest)
unfolding introduction
introduction_again i rest h =
    again_next (name_agrees BadName) after_name i.name (address_text i.at) rest h.name
    ∙ again_first address_agrees (λ a. done (of_parts i.name a)) i.at rest h.at
