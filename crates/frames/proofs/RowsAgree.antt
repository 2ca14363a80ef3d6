-- The fields of each kind are read as they are spelled.
use Rattle.std.proofs.Common.{◌≡◌, ℕ, Bool, true, false, cond, List, [], ◌∷◌, ◌++◌, Option, Some, None, Ok, refl, sym, ap, subst, ◌∙◌}
use Rattle.std.specs.Prelude.{◌==◌, ◌||◌, IsTrue}
use Rattle.std.specs.Int.{w32, to_be_bytes}
use Rattle.std.specs.List.{AllByRecursion}
use Rattle.std.proofs.lemmas.Bool.{eqb-true}
use Rattle.frames.specs.declared.body.BodyOf.TheVariants as body
use Rattle.frames.specs.declared.fault.FrameFault.TheVariants.{BadVersion}
use Rattle.frames.specs.declared.body.Kind.{Kind}
use Rattle.frames.specs.declared.body.Kind.TheVariants.{Join, ForwardJoin, Neighbor, NeighborReply, Disconnect}
use Rattle.frames.specs.declared.body.Kind.TheVariants.{Shuffle, ShuffleReply, Gossip, IHave, Graft, Prune, GraftPeer}
use Rattle.frames.specs.Body.{Body}
use Rattle.frames.specs.Field.{octets, Holds}
use Rattle.frames.specs.Field.Field.{names as names_field, payload as payload_field}
use Rattle.frames.specs.Grammar.{fields_of, spelled}
use Rattle.frames.specs.Kind.{kind_of, kind_numbered, number_of, of_version, version_of}
use Rattle.frames.specs.Reading.{◌>>=◌, done, judge, known, word, byte, names, payload, version, kind, fields}
use Rattle.frames.proofs.Agree.{IsBytes, Agrees, takes_first, again_next, done_is, row1_take, row2_take, row3_take}
use Rattle.frames.proofs.FieldsAgree.{byte_agrees, flag_agrees, word32_agrees, name_agrees, id_agrees}
use Rattle.frames.proofs.ListsAgree.{names_agrees, payload_agrees, announcements_agrees}

-- what the fields of a kind were taken from
pub record Row (k : Kind) (bytes : List ℕ) (b : Body) (rest : List ℕ) : Type 0 where
  pub kind : kind_of b ≡ k
  pub parts : bytes ≡ spelled (fields_of b) ++ rest
  pub fits : AllByRecursion Holds (fields_of b)

pub fields_take : (k : Kind) (bytes : List ℕ) (b : Body) (rest : List ℕ) → IsBytes bytes → fields k bytes ≡ Ok (b, rest) → Row k bytes b rest
unfolding fields
fields_take Join bytes b rest h e =
    let d = done_is body.Join b bytes rest e in
    subst (λ v. Row Join bytes v rest) d.0 (record { kind = refl; parts = d.1; fits = tt })
fields_take ForwardJoin bytes b rest h e =
    let p = row2_take name_agrees byte_agrees (λ x y. body.ForwardJoin x y) bytes b rest h e in
    subst (λ v. Row ForwardJoin bytes v rest) p.made (record { kind = refl; parts = p.parts; fits = (p.fits, (p.fits', tt)) })
fields_take Neighbor bytes b rest h e =
    let p = row1_take flag_agrees (λ x. body.Neighbor x) bytes b rest h e in
    subst (λ v. Row Neighbor bytes v rest) p.made (record { kind = refl; parts = p.parts; fits = (p.fits, tt) })
fields_take NeighborReply bytes b rest h e =
    let p = row1_take flag_agrees (λ x. body.NeighborReply x) bytes b rest h e in
    subst (λ v. Row NeighborReply bytes v rest) p.made (record { kind = refl; parts = p.parts; fits = (p.fits, tt) })
fields_take Disconnect bytes b rest h e =
    let d = done_is body.Disconnect b bytes rest e in
    subst (λ v. Row Disconnect bytes v rest) d.0 (record { kind = refl; parts = d.1; fits = tt })
fields_take Shuffle bytes b rest h e =
    let p = row3_take name_agrees byte_agrees names_agrees (λ x y z. body.Shuffle x y z) bytes b rest h e in
    subst (λ v. Row Shuffle bytes v rest) p.made (record { kind = refl; parts = p.parts; fits = (p.fits, (p.fits', (p.fits'', tt))) })
fields_take ShuffleReply bytes b rest h e =
    let p = row1_take names_agrees (λ x. body.ShuffleReply x) bytes b rest h e in
    subst (λ v. Row ShuffleReply bytes v rest) p.made (record { kind = refl; parts = p.parts; fits = (p.fits, tt) })
fields_take Gossip bytes b rest h e =
    let p = row3_take id_agrees word32_agrees payload_agrees (λ x y z. body.Gossip x y z) bytes b rest h e in
    subst (λ v. Row Gossip bytes v rest) p.made (record { kind = refl; parts = p.parts; fits = (p.fits, (p.fits', (p.fits'', tt))) })
fields_take IHave bytes b rest h e =
    let p = row1_take announcements_agrees (λ x. body.IHave x) bytes b rest h e in
    subst (λ v. Row IHave bytes v rest) p.made (record { kind = refl; parts = p.parts; fits = (p.fits, tt) })
fields_take Graft bytes b rest h e =
    let p = row2_take id_agrees word32_agrees (λ x y. body.Graft x y) bytes b rest h e in
    subst (λ v. Row Graft bytes v rest) p.made (record { kind = refl; parts = p.parts; fits = (p.fits, (p.fits', tt)) })
fields_take Prune bytes b rest h e =
    let d = done_is body.Prune b bytes rest e in
    subst (λ v. Row Prune bytes v rest) d.0 (record { kind = refl; parts = d.1; fits = tt })
fields_take GraftPeer bytes b rest h e =
    let d = done_is body.GraftPeer b bytes rest e in
    subst (λ v. Row GraftPeer bytes v rest) d.0 (record { kind = refl; parts = d.1; fits = tt })

pub fields_again : (b : Body) (rest : List ℕ) → AllByRecursion Holds (fields_of b) → fields (kind_of b) (spelled (fields_of b) ++ rest) ≡ Ok (b, rest)
unfolding fields
fields_again body.Join rest h = refl
fields_again (body.ForwardJoin new ttl) rest h =
    again_next name_agrees (λ new. byte >>= λ ttl. done (body.ForwardJoin new ttl)) new ((ttl ∷ []) ++ []) rest h.0
    ∙ again_next byte_agrees (λ ttl. done (body.ForwardJoin new ttl)) ttl [] rest h.1.0
fields_again (body.Neighbor high) rest h = again_next flag_agrees (λ high. done (body.Neighbor high)) high [] rest tt
fields_again (body.NeighborReply accepted) rest h = again_next flag_agrees (λ accepted. done (body.NeighborReply accepted)) accepted [] rest tt
fields_again body.Disconnect rest h = refl
fields_again (body.Shuffle from ttl ns) rest h =
    again_next name_agrees (λ from. byte >>= λ ttl. names >>= λ ns. done (body.Shuffle from ttl ns)) from
    ((ttl ∷ []) ++ (octets (names_field ns) ++ [])) rest h.0
    ∙ again_next byte_agrees (λ ttl. names >>= λ ns. done (body.Shuffle from ttl ns)) ttl (octets (names_field ns) ++ []) rest h.1.0
    ∙ again_next names_agrees (λ ns. done (body.Shuffle from ttl ns)) ns [] rest h.1.1.0
fields_again (body.ShuffleReply ns) rest h = again_next names_agrees (λ ns. done (body.ShuffleReply ns)) ns [] rest h.0
fields_again (body.Gossip i round bs) rest h =
    again_next id_agrees (λ i. word w32 >>= λ round. payload >>= λ bs. done (body.Gossip i round bs)) i
    (to_be_bytes w32 round ++ (octets (payload_field bs) ++ [])) rest h.0
    ∙ again_next word32_agrees (λ round. payload >>= λ bs. done (body.Gossip i round bs)) round (octets (payload_field bs) ++ []) rest h.1.0
    ∙ again_next payload_agrees (λ bs. done (body.Gossip i round bs)) bs [] rest h.1.1.0
fields_again (body.IHave entries) rest h = again_next announcements_agrees (λ entries. done (body.IHave entries)) entries [] rest h.0
fields_again (body.Graft i round) rest h =
    again_next id_agrees (λ i. word w32 >>= λ round. done (body.Graft i round)) i (to_be_bytes w32 round ++ []) rest h.0
    ∙ again_next word32_agrees (λ round. done (body.Graft i round)) round [] rest h.1.0
fields_again body.Prune rest h = refl
fields_again body.GraftPeer rest h = refl

-- ---- the version and the kind

-- whether a version is known
abbrev is_version : ℕ → Bool
is_version v = v == 1 || v == 2

judged_is : (good : Bool) (v w : ℕ) (after rest : List ℕ) →
    (judge good BadVersion >>= λ _. done v) after ≡ Ok (w, rest) →
    (good ≡ true) × (v ≡ w) × (after ≡ rest)
judged_is true v w after rest e = let d = done_is v w after rest e in (refl, d.0, d.1)
judged_is false v w after rest e = absurd cc

version_takes : (bytes : List ℕ) (v : ℕ) (rest : List ℕ) → IsBytes bytes → version bytes ≡ Ok (v, rest) → (bytes ≡ (v ∷ []) ++ rest) × IsTrue (is_version v)
unfolding version
version_takes bytes v rest h e =
    let a = takes_first byte_agrees (λ n. judge (is_version n) BadVersion >>= λ _. done n) bytes v rest h e in
    let j = judged_is (is_version a.value) a.value v a.after rest a.then' in
    (a.parts ∙ ap (λ n. n ∷ a.after) j.1 ∙ ap (λ t. v ∷ t) j.2, subst (λ n. IsTrue (is_version n)) j.1 j.0)

version_again : (v : ℕ) (rest : List ℕ) → IsTrue (is_version v) → version ((v ∷ []) ++ rest) ≡ Ok (v, rest)
unfolding version byte
version_again v rest h = rw h refl

pub version_agrees : Agrees version (λ v. v ∷ []) (λ v. IsTrue (is_version v))
version_agrees = record { takes = version_takes; again = version_again }

pub version_again_of : (k : Kind) → IsTrue (version_of k == 1 || version_of k == 2)
version_again_of Join = refl
version_again_of ForwardJoin = refl
version_again_of Neighbor = refl
version_again_of NeighborReply = refl
version_again_of Disconnect = refl
version_again_of Shuffle = refl
version_again_of ShuffleReply = refl
version_again_of Gossip = refl
version_again_of IHave = refl
version_again_of Graft = refl
version_again_of Prune = refl
version_again_of GraftPeer = refl

abbrev some : Kind → Option Kind
some k = Some k

some_is : (j k : Kind) → some j ≡ some k → j ≡ k
some_is j k e = cc

-- the first that a number may be, or a later one
pick : (n m : ℕ) (x k : Kind) (others : Option Kind) →
    cond (n == m) (Some x) others ≡ Some k →
    number_of x ≡ m →
    (others ≡ Some k → number_of k ≡ n) →
    number_of k ≡ n
pick n m x k others e is later = pick_by (n == m) refl e
  where
    pick_by : (b : Bool) → (n == m) ≡ b → cond b (Some x) others ≡ Some k → number_of k ≡ n
    pick_by true t e = ap number_of (sym (some_is x k e)) ∙ is ∙ sym (eqb-true _ _ t)
    pick_by false t e = later e

number_is : (n : ℕ) (k : Kind) → kind_numbered n ≡ Some k → number_of k ≡ n
number_is n k e =
    pick n 1 Join k _ e refl λ e. pick n 2 ForwardJoin k _ e refl λ e. pick n 3 Neighbor k _ e refl λ e. pick n 4 NeighborReply k _ e refl
    λ e. pick n 5 Disconnect k _ e refl λ e. pick n 6 Shuffle k _ e refl λ e. pick n 7 ShuffleReply k _ e refl λ e. pick n 8 Gossip k _ e refl
    λ e. pick n 9 IHave k _ e refl λ e. pick n 10 Graft k _ e refl λ e. pick n 11 Prune k _ e refl λ e. pick n 12 GraftPeer k _ e refl λ e. absurd cc

number_again : (k : Kind) → of_version (version_of k) (kind_numbered (number_of k)) ≡ Some k
number_again Join = refl
number_again ForwardJoin = refl
number_again Neighbor = refl
number_again NeighborReply = refl
number_again Disconnect = refl
number_again Shuffle = refl
number_again ShuffleReply = refl
number_again Gossip = refl
number_again IHave = refl
number_again Graft = refl
number_again Prune = refl
number_again GraftPeer = refl

known_is : (o : Option Kind) (after : List ℕ) (k : Kind) (rest : List ℕ) → known o after ≡ Ok (k, rest) → (o ≡ Some k) × (after ≡ rest)
known_is (Some j) after k rest e = let d = done_is j k after rest e in (ap (λ x. Some x) d.0, d.1)
known_is None after k rest e = absurd cc

-- a kind of a version is one of that number, and has the version
of_version_is : (v : ℕ) (o : Option Kind) (k : Kind) → of_version v o ≡ Some k → (o ≡ Some k) × (version_of k ≡ v)
of_version_is v None k e = absurd cc
of_version_is v (Some j) k e = by_test (version_of j == v) refl e
  where
    by_test : (b : Bool) → (version_of j == v) ≡ b → cond b (Some j) None ≡ Some k → (Some j ≡ Some k) × (version_of k ≡ v)
    by_test true t e = (e, ap version_of (sym (some_is j k e)) ∙ eqb-true _ _ t)
    by_test false t e = absurd cc

kind_takes : (v : ℕ) (bytes : List ℕ) (k : Kind) (rest : List ℕ) →
    IsBytes bytes →
    kind v bytes ≡ Ok (k, rest) →
    (bytes ≡ (number_of k ∷ []) ++ rest) × (version_of k ≡ v)
unfolding kind
kind_takes v bytes k rest h e =
    let a = takes_first byte_agrees (λ n. known (of_version v (kind_numbered n))) bytes k rest h e in
    let j = known_is (of_version v (kind_numbered a.value)) a.after k rest a.then' in
    let is = of_version_is v (kind_numbered a.value) k j.0 in
    (a.parts ∙ ap (λ n. n ∷ a.after) (sym (number_is a.value k is.0)) ∙ ap (λ t. number_of k ∷ t) j.1, is.1)

kind_again : (v : ℕ) (k : Kind) (rest : List ℕ) → version_of k ≡ v → kind v ((number_of k ∷ []) ++ rest) ≡ Ok (k, rest)
unfolding kind byte
kind_again v k rest h = rw (← h) (rw (number_again k) refl)

pub kind_agrees : (v : ℕ) → Agrees (kind v) (λ k. number_of k ∷ []) (λ k. version_of k ≡ v)
kind_agrees v = record { takes = kind_takes v; again = kind_again v }
