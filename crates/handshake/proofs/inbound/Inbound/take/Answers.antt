use Rattle.std.proofs.Common.{◌≡◌, ◌<◌, true, [], ◌∷◌, ◌++◌, take, Some, None, Ok, Err, sym, ap, subst, ◌∙◌, arith}
use Rattle.std.proofs.lemmas.List.{take_at}
use Rattle.handshake.specs.Inbound.{answered, frames, gave, run}
use Rattle.handshake.specs.Judging.{judged, lacking}
use Rattle.handshake.specs.Records.{IsRecord, record_text}
use Rattle.handshake.specs.State.{State}
use Rattle.handshake.proofs.Agree.{IsBytes}
use Rattle.handshake.proofs.Judged.{Within, given_is, within_taken}
use Rattle.handshake.proofs.Runs.{GivesNone, fault_stays, none_before_fault, room, taken_run}
use Rattle.handshake.proofs.inbound.Inbound.take.Goals as goal

pub returns-in-Ok-None-clause-some : goal.returns-in-Ok-None-clause-some
returns-in-Ok-None-clause-some c =
    let f = c.self.inside in
    let lacks : c.lacking.result ≡ lacking f.kept = c.lacking.ensures ∙ ap lacking c.as_slice.ensures.value in
    omega (arith, (room f.is_open f.kept c.self.invariant).0)

pub returns-in-Ok-Some-clause-some : goal.returns-in-Ok-Some-clause-some
returns-in-Ok-Some-clause-some c =
    let f = c.self.inside in
    let lacks : c.lacking.result ≡ lacking f.kept = c.lacking.ensures ∙ ap lacking c.as_slice.ensures.value in
    omega (arith, (room f.is_open f.kept c.self.invariant).0)

pub returns-in-Ok-None-clause-taken : goal.returns-in-Ok-None-clause-taken
returns-in-Ok-None-clause-taken c =
    let f = c.self.inside in
    let s : State = record { is_open = f.is_open; place = f.place; kept = f.kept } in
    let bytes = c.args.bytes.now in
    let n = c.min-count.result in
    let lacks : c.lacking.result ≡ lacking f.kept = c.lacking.ensures ∙ ap lacking c.as_slice.ensures.value in
    let some : 0 < n = omega (arith, (room f.is_open f.kept c.self.invariant).0) in
    let none = subst (λ t. frames t bytes ≡ 0) (sym c.self.view_is) c.requires.no_frames in
    let is_told : judged f.is_open c.append.new.self ≡ Ok None =
    ap (judged f.is_open) (sym c.as_slice-2.ensures.value) ∙ sym c.judge.ensures.value ∙ c.in-Ok-None.is ∙ ap Ok c.in-Ok-None.field-0-is in
    ap (λ t. run t (take n bytes)) (sym c.self.view_is)
    ∙ taken_run s bytes c.append.new.self n none c.self.invariant some (omega arith) (omega arith) c.append.ensures
    ∙ ap (answered s c.append.new.self) is_told

pub returns-in-Ok-Some-clause-taken : goal.returns-in-Ok-Some-clause-taken
returns-in-Ok-Some-clause-taken c =
    let f = c.self.inside in
    let s : State = record { is_open = f.is_open; place = f.place; kept = f.kept } in
    let bytes = c.args.bytes.now in
    let n = c.min-count.result in
    let r = c.in-Ok-Some.record in
    let lacks : c.lacking.result ≡ lacking f.kept = c.lacking.ensures ∙ ap lacking c.as_slice.ensures.value in
    let some : 0 < n = omega (arith, (room f.is_open f.kept c.self.invariant).0) in
    let none = subst (λ t. frames t bytes ≡ 0) (sym c.self.view_is) c.requires.no_frames in
    let is_told : judged f.is_open c.append.new.self ≡ Ok (Some r) =
    ap (judged f.is_open) (sym c.as_slice-2.ensures.value) ∙ sym c.judge.ensures.value ∙ c.in-Ok-Some.is ∙ ap Ok c.in-Ok-Some.field-0-is in
    ap (λ t. run t (take n bytes)) (sym c.self.view_is)
    ∙ taken_run s bytes c.append.new.self n none c.self.invariant some (omega arith) (omega arith) c.append.ensures
    ∙ ap (answered s c.append.new.self) is_told
    ∙ ap (λ k. Ok (record s { is_open = true; kept = k }, gave r ∷ [])) (sym c.truncate.ensures)

pub returns-in-Ok-Some-clause-record : goal.returns-in-Ok-Some-clause-record
returns-in-Ok-Some-clause-record c =
    let f = c.self.inside in
    let bytes = c.args.bytes.now in
    let n = c.min-count.result in
    let r = c.in-Ok-Some.record in
    let lacks : c.lacking.result ≡ lacking f.kept = c.lacking.ensures ∙ ap lacking c.as_slice.ensures.value in
    let is_told : judged f.is_open c.append.new.self ≡ Ok (Some r) =
    ap (judged f.is_open) (sym c.as_slice-2.ensures.value) ∙ sym c.judge.ensures.value ∙ c.in-Ok-Some.is ∙ ap Ok c.in-Ok-Some.field-0-is in
    let within : Within c.append.new.self = subst Within (sym c.append.ensures) (within_taken f.is_open f.kept bytes n c.self.invariant (omega arith)) in
    let small : IsBytes c.append.new.self = subst IsBytes c.as_slice-2.ensures.value c.judge.ensures.bytes in
    let is = given_is f.is_open c.append.new.self r small within is_told in
    subst (λ s. (s.kept ++ take n bytes ≡ record_text r) × IsRecord s.is_open r) c.self.view_is (sym c.append.ensures ∙ is.0, is.1)

pub returns-in-Err-clause-refused : goal.returns-in-Err-clause-refused
returns-in-Err-clause-refused c =
    let f = c.self.inside in
    let s : State = record { is_open = f.is_open; place = f.place; kept = f.kept } in
    let bytes = c.args.bytes.now in
    let n = c.min-count.result in
    let lacks : c.lacking.result ≡ lacking f.kept = c.lacking.ensures ∙ ap lacking c.as_slice.ensures.value in
    let some : 0 < n = omega (arith, (room f.is_open f.kept c.self.invariant).0) in
    let none = subst (λ t. frames t bytes ≡ 0) (sym c.self.view_is) c.requires.no_frames in
    let is_told : judged f.is_open c.append.new.self ≡ Err c.in-Err.error =
    ap (judged f.is_open) (sym c.as_slice-2.ensures.value) ∙ sym c.judge.ensures.value ∙ c.in-Err.is in
    let taken =
    taken_run s bytes c.append.new.self n none c.self.invariant some (omega arith) (omega arith) c.append.ensures ∙ ap (answered s c.append.new.self) is_told in
    ap (λ t. run t bytes) (sym c.self.view_is) ∙ fault_stays s n bytes c.in-Err.error taken

pub returns-in-Err-clause-none_lost : goal.returns-in-Err-clause-none_lost
returns-in-Err-clause-none_lost c n =
    let f = c.self.inside in
    let s : State = record { is_open = f.is_open; place = f.place; kept = f.kept } in
    let bytes = c.args.bytes.now in
    let count = c.min-count.result in
    let lacks : c.lacking.result ≡ lacking f.kept = c.lacking.ensures ∙ ap lacking c.as_slice.ensures.value in
    let some : 0 < count = omega (arith, (room f.is_open f.kept c.self.invariant).0) in
    let none = subst (λ t. frames t bytes ≡ 0) (sym c.self.view_is) c.requires.no_frames in
    let is_told : judged f.is_open c.append.new.self ≡ Err c.in-Err.error =
    ap (judged f.is_open) (sym c.as_slice-2.ensures.value) ∙ sym c.judge.ensures.value ∙ c.in-Err.is in
    let taken =
    taken_run s bytes c.append.new.self count none c.self.invariant some (omega arith) (omega arith) c.append.ensures
    ∙ ap (answered s c.append.new.self) is_told in
    let gives = none_before_fault s bytes count c.in-Err.error none c.self.invariant (omega arith) (omega arith) taken n in
    subst (λ t. GivesNone (run t (take n bytes))) c.self.view_is gives

pub returns-in-Err-clause-unchanged : goal.returns-in-Err-clause-unchanged
returns-in-Err-clause-unchanged c =
    let f = c.self.inside in
    let s : State = record { is_open = f.is_open; place = f.place; kept = f.kept } in
    let back : c.truncate-in-Err.new.self ≡ f.kept =
    c.truncate-in-Err.ensures
    ∙ ap (take c.len-before.result) c.append.ensures
    ∙ take_at f.kept (take c.min-count.result c.args.bytes.now) c.len-before.result (sym c.len-before.ensures.value) in
    ap (λ k. record s { kept = k }) back ∙ c.self.view_is
