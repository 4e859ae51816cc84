-- The laws of the trace program's input: docs/RULES.md, "Trace program".
use Prim.Native.Nat.{ℕ, zero, suc, ◌+◌, ◌-◌, ◌≤◌, ◌<◌, min}
use native.Mathlib.Omega.{arith}
use mathlib.Core.Path.{◌≡◌, refl, sym, ap, subst, ◌∙◌}
use mathlib.Core.Bool.{Bool, true, false}
use mathlib.Core.List.{List, [], ◌∷◌, ◌++◌}
use lib.ListN.{length, take, drop, length-take, length-append}
use lib.Dec.{ltb}
use borrow.Author.Tests.{ltb-true, ltb-false}
use lib.Seq.{sets, take-nil, length-take-le, take_at, length-sets, sets-eq}
use Rattle.std.specs.Prelude.{Option, None, Some, Result, Ok, Err, IfOk, IsErr, IfSome}
use Rattle.std.specs.Io.KnownBytes.{Consumes, IsAtEnd}
use Rattle.std.proofs.Common.{append_assoc}
use Rattle.std.proofs.lemmas.List.{append-nil}
use Rattle.std.specs.declared.io.Error.{Error}
use Rattle.text.specs.Text.{text_of, Writes}
use Rattle.text.specs.declared.report.Report.{Report}
use Rattle.trace_axis.specs.Trace.{LIMIT, started, fed_with, report_of, input_report}
use Rattle.trace_axis.specs.declared.trace.Trace.{Trace}
use Rattle.trace_axis.proofs.TraceLaws.{cut, fed_none, rule, limit_rule}
use Rattle.trace.specs.Input.{Turn, turn_of, answered, AllRead, found, Found, Failed, room_for, ReadOnce}
use Rattle.trace.specs.Input.{Reads, none, more, Ends, last, full, InputRead, InputTaken, Reported, ReportLines}

-- ---- the bytes that a read found

-- No more elements can be taken than there are.
take_min : (n : ℕ) (d : List ℕ) → take (min n (length d)) d ≡ take n d
take_min zero d = let e : min 0 (length d) ≡ 0 = omega arith in ap (λ (m : ℕ). take m d) e
take_min (suc n) [] = take-nil (min (suc n) 0)
take_min (suc n) (a ∷ d) =
    let e : min (suc n) (suc (length d)) ≡ suc (min n (length d)) = omega arith in
    rw e (ap (λ (l : List ℕ). a ∷ l) (take_min n d))

-- They are the front of the buffer, of as many bytes as the read answered.
pub found_counted : {E : Type 0} (r : Result ℕ E) (d : List ℕ) →
    ((n : ℕ) → r ≡ Ok n → take (min n (length d)) d ≡ found r d) × (IsErr r → found r d ≡ [])
found_counted (Ok n) d = (λ m e. let k : m ≡ n = cc in rw k (take_min n d), λ h. absurd (let none : ⊥ = cc in none))
found_counted (Err x) d = (λ m e. absurd (let none : ⊥ = cc in none), λ h. refl)

-- A read that found no bytes.
found_none : {E : Type 0} (r : Result ℕ E) (d : List ℕ) → (Found r → ⊥) → found r d ≡ []
found_none (Ok zero) d h = refl
found_none (Ok (suc n)) d h = absurd (h (omega arith))
found_none (Err e) d h = refl

-- They are no more than the read was lent.
found_within : {E : Type 0} (r : Result ℕ E) (d : List ℕ) (k : ℕ) → IfOk r (λ n. n ≤ k) → length (found r d) ≤ k
found_within (Ok n) d k h = rw (length-take n d) (omega arith)
found_within (Err e) d k h = omega arith

-- They are some where the read found some.
found_some : {E : Type 0} (r : Result ℕ E) (d : List ℕ) (k : ℕ) → IfOk r (λ n. n ≤ k) → k ≤ length d → Found r → 0 < length (found r d)
found_some (Ok n) d k m h f = rw (length-take-le n d (omega arith)) f
found_some (Err e) d k m h f = absurd f

-- ---- one read

-- Bytes that are all looked at are all counted.
samples_after : (x : Trace) (bs : List ℕ) → length bs ≤ LIMIT - x.samples → (fed_with x bs).samples ≡ x.samples + length bs
unfolding fed_with
samples_after x bs h = omega (arith, length-take (LIMIT - x.samples) bs)

-- Every byte that a read found is looked at.
read_counts : (x : Trace) (b d : List ℕ) (t : Turn) → ReadOnce x b d t → t.trace.samples ≡ x.samples + length (found t.got d)
read_counts x b d t o =
    let h = found_within t.got d (room_for x b) o.answer in
    omega (arith, samples_after x (found t.got d) (omega arith), ap (λ (y : Trace). y.samples) o.trace)

-- A read that answers a number finds that many bytes, no fewer, and all of them are looked at.
pub read_samples : (x : Trace) (b d : List ℕ) (t : Turn) (n : ℕ) → ReadOnce x b d t → t.got ≡ Ok n →
    (length (found t.got d) ≡ n) × (t.trace.samples ≡ x.samples + n)
read_samples x b d t n o e =
    let m : n ≤ room_for x b = rw e at o.answer in
    let l : length (found t.got d) ≡ n = rw e (length-take-le n d (omega (arith, o.long))) in
    (l, omega (arith, l, read_counts x b d t o))

-- Every read that finds bytes leaves fewer to look at.
pub fewer_left : (x : Trace) (b d : List ℕ) (t : Turn) → ReadOnce x b d t → Found t.got →
    LIMIT - t.trace.samples < LIMIT - x.samples
fewer_left x b d t o f =
    let s = found_some t.got d (room_for x b) o.answer (omega (arith, o.long)) f in
    omega (arith, read_counts x b d t o, o.some)

-- ---- the whole input

-- Bytes that were read so far, whichever they are, of those that the reader had.
pub record SoFar (old new : Option (List ℕ)) (x : Trace) : Type 0 where
  pub bytes : List ℕ
  pub reads : Reads bytes x
  pub taken : Consumes old new bytes

-- Before the first read they are none.
pub taken_none : (old : Option (List ℕ)) → Consumes old old []
taken_none None = tt
taken_none (Some xs) = refl

-- One read more takes its bytes behind those before it.
pub taken_more : (old mid new : Option (List ℕ)) (a b : List ℕ) → Consumes old mid a → Consumes mid new b → Consumes old new (a ++ b)
taken_more None mid new a b p q = tt
taken_more (Some xs) None new a b p q = absurd p
taken_more (Some xs) (Some ys) None a b p q = absurd q
taken_more (Some xs) (Some ys) (Some zs) a b p q = rw (p, q) (sym (append_assoc a b zs))

-- The trace of one read after another is that of their bytes, each of them once and in order.
pub reads_fed : {bs : List ℕ} {x : Trace} → Reads bs x → x ≡ fed_with started bs
reads_fed none = sym (fed_none started)
reads_fed (more {bs} {x} {b} {d} {t} r o f) =
    o.trace ∙ ap (λ (y : Trace). fed_with y (found t.got d)) (reads_fed r) ∙ cut started bs (found t.got d)

-- The program takes no more than 4,294,967,295 bytes, and looks at every byte that it takes.
pub reads_taken : {bs : List ℕ} {x : Trace} → Reads bs x → (x.samples ≡ length bs) × (length bs ≤ 4294967295)
unfolding started
reads_taken none = (refl, omega arith)
reads_taken (more {bs} {x} {b} {d} {t} r o f) =
    let i = reads_taken r in
    let l = length-append bs (found t.got d) in
    let w = found_within t.got d (room_for x b) o.answer in
    (omega (arith, read_counts x b d t o), omega arith)

-- What ends the reading feeds nothing.
ends_fed : {x : Trace} {t : Turn} → Ends x t → t.trace ≡ x
ends_fed (last {x} {b} {d} {t} o n) = o.trace ∙ ap (fed_with x) (found_none t.got d n) ∙ fed_none x
ends_fed (full h) = refl

-- Behind the limit no read is made.
full_ends : {x : Trace} {t : Turn} → Ends x t → 4294967295 ≤ x.samples → t.got ≡ Ok 0
full_ends (last {x} {b} o n) h = absurd (omega (arith, o.some))
full_ends (full g) h = refl

-- Before it only a read that found nothing ends the reading.
short_ends : {x : Trace} {t : Turn} → Ends x t → x.samples < 4294967295 →
    (b : List ℕ) × (d : List ℕ) × ReadOnce x b d t × (Found t.got → ⊥)
short_ends (last {x} {b} {d} o n) h = (b, d, o, n)
short_ends (full g) h = absurd (omega arith)

-- The report of what was read is the rules' report of those bytes.
pub read_report : {t : Turn} (i : InputRead t) → report_of t.trace ≡ input_report i.bytes
read_report i = ap report_of (ends_fed i.ends ∙ reads_fed i.reads) ∙ rule i.bytes

-- Where 4,294,967,295 bytes were read, no read has failed.
pub read_full : {t : Turn} (i : InputRead t) → length i.bytes ≡ 4294967295 → t.got ≡ Ok 0
read_full i e = full_ends i.ends (omega (arith, (reads_taken i.reads).0))

-- Where fewer were read, the last read was lent a byte or more and found none.
pub read_short : {t : Turn} (i : InputRead t) → length i.bytes < 4294967295 →
    (b : List ℕ) × (d : List ℕ) × ReadOnce i.fed b d t × (Found t.got → ⊥)
read_short i h = short_ends i.ends (omega (arith, (reads_taken i.reads).0))

-- ---- the bytes that the reader had

-- A read that neither found bytes nor failed answers 0.
found_end : {E : Type 0} (r : Result ℕ E) → (Found r → ⊥) → (Failed r → ⊥) → r ≡ Ok 0
found_end (Ok zero) h g = refl
found_end (Ok (suc n)) h g = absurd (h (omega arith))
found_end (Err e) h g = absurd (g tt)

-- A read more that found bytes.
pub taken_on : {old mid new : Option (List ℕ)} {x : Trace} {b d : List ℕ} {t : Turn} → SoFar old mid x → ReadOnce x b d t →
    Found t.got → Consumes mid new (found t.got d) → SoFar old new t.trace
taken_on {old} {mid} {new} {x} {b} {d} {t} s o f q = record {
  bytes = s.bytes ++ found t.got d;
  reads = more s.reads o f;
  taken = taken_more old mid new s.bytes (found t.got d) s.taken q;
}

-- A read that found none.
pub taken_last : {old mid new : Option (List ℕ)} {x : Trace} {b d : List ℕ} {t : Turn} → SoFar old mid x → ReadOnce x b d t →
    (Found t.got → ⊥) → Consumes mid new (found t.got d) → (t.got ≡ Ok 0 → IsAtEnd new) → InputTaken old new t
taken_last {old} {mid} {new} {x} {b} {d} {t} s o f q z =
    let n : s.bytes ++ found t.got d ≡ s.bytes = rw (found_none t.got d f) (append-nil s.bytes) in
    record {
      input = record { bytes = s.bytes; fed = x; reads = s.reads; ends = last o f };
      taken = subst (Consumes old new) n (taken_more old mid new s.bytes (found t.got d) s.taken q);
      all = λ g _. z (found_end t.got f g);
    }

-- No byte left that would be looked at.
pub taken_full : {old new : Option (List ℕ)} {x : Trace} → SoFar old new x → LIMIT ≤ x.samples →
    InputTaken old new (record { trace = x; got = Ok 0 })
taken_full {old} {new} {x} s h = record {
  input = record { bytes = s.bytes; fed = x; reads = s.reads; ends = full {x = x} h };
  taken = s.taken;
  all = λ g l. absurd (omega (arith, (reads_taken s.reads).0));
}

-- What is answered where a read fails, where the input ends, and where no further byte would be looked at.
module _ {old mid new : Option (List ℕ)} {x y : Trace} {b d : List ℕ} (s : SoFar old mid x) where
  pub all_failed : {e : Error} → ReadOnce x b d (turn_of y (Err e)) → Consumes mid new [] → AllRead old new (Err e)
  all_failed {e} o q = record { turn = turn_of y (Err e); taken = taken_last s o (λ f. f) q (λ h. absurd (let none : ⊥ = cc in none)); answer = refl }

  pub all_ended : {n : ℕ} → n ≡ 0 → ReadOnce x b d (turn_of y (Ok n)) → Consumes mid new (take n d) → (◌≡◌ {A = Result ℕ Error} (Ok n) (Ok 0) → IsAtEnd new) →
      AllRead old new (Ok y)
  all_ended {n} z o q e = record { turn = turn_of y (Ok n); taken = taken_last s o (λ f. omega arith) q e; answer = refl }

pub all_full : {old new : Option (List ℕ)} {x : Trace} → SoFar old new x → LIMIT ≤ x.samples → AllRead old new (Ok x)
all_full s h = record { turn = _; taken = taken_full s h; answer = refl }

-- Where the bytes that the reader had are known, the report of those that were read is that of all of them.
pub taken_report : (old new : Option (List ℕ)) {t : Turn} (i : InputTaken old new t) → (Failed t.got → ⊥) →
    IfSome old (λ xs. input_report i.input.bytes ≡ input_report xs)
taken_report None new i g = tt
taken_report (Some xs) None i g = absurd i.taken
taken_report (Some xs) (Some ys) {t} i g = go i.input.bytes i.taken (i.all g) (ltb (length i.input.bytes) 4294967295) refl
  where
    go : (bs : List ℕ) → xs ≡ bs ++ ys → (length bs < LIMIT → ys ≡ []) → (l : Bool) → ltb (length bs) 4294967295 ≡ l →
        input_report bs ≡ input_report xs
    go bs k a true e =
        let n : ys ≡ [] = a (ltb-true (length bs) 4294967295 e) in
        ap input_report (sym (k ∙ ap (λ (l : List ℕ). bs ++ l) n ∙ append-nil bs))
    go bs k a false e =
        let m : 4294967295 ≤ length bs = ltb-false (length bs) 4294967295 e in
        sym (rule bs) ∙ ap report_of (sym (limit_rule bs ys m)) ∙ rule (bs ++ ys) ∙ ap input_report (sym k)

-- ---- the report

-- A text that was written stands at the front of the buffer.
pub writes_front : {r : Report} {b d : List ℕ} {n : ℕ} → Writes r b d n → take n d ≡ text_of r
writes_front {r} {b} {d} {n} w =
    let l : length d ≡ length b = ap length w.buffer ∙ length-sets b 0 (text_of r) in
    let e : sets b 0 (text_of r) ≡ text_of r ++ drop (0 + length (text_of r)) b =
    sets-eq (text_of r) b 0 (omega (arith, w.number, w.fits)) in
    ap (take n) (w.buffer ∙ e) ∙ take_at (text_of r) _ n (sym w.number)

-- An answer that is a value is that value, and no read failed.
answered_ok : {A : Type 0} {x y : A} (got : Result ℕ Error) → Ok x ≡ answered y got → (x ≡ y) × (Failed got → ⊥)
answered_ok (Ok n) e = (cc, λ f. f)
answered_ok (Err z) e = absurd (let none : ⊥ = cc in none)

-- What is answered where no read failed.
answered_good : {A : Type 0} (x : A) (got : Result ℕ Error) → (Failed got → ⊥) → Ok x ≡ answered x got
answered_good x (Ok n) g = refl
answered_good x (Err e) g = absurd (g tt)

-- The report of the trace of all of the input is the rules' report of the bytes that were read.
pub reported : {old new : Option (List ℕ)} {x : Trace} → AllRead old new (Ok x) → Reported (Ok (report_of x))
reported a =
    let q = answered_ok a.turn.got a.answer in
    record {
      turn = a.turn;
      input = a.taken.input;
      answer = ap Ok (ap report_of q.0 ∙ read_report a.taken.input) ∙ answered_good (input_report a.taken.input.bytes) a.turn.got q.1;
    }

-- And where the bytes that the reader had are known, it is the report of all of them.
pub reported_whole : (old new : Option (List ℕ)) {x : Trace} → AllRead old new (Ok x) → IfSome old (λ xs. report_of x ≡ input_report xs)
reported_whole None new a = tt
reported_whole (Some xs) new a =
    let q = answered_ok a.turn.got a.answer in
    ap report_of q.0 ∙ read_report a.taken.input ∙ taken_report (Some xs) new a.taken q.1

-- A number at the end gives the report of the bytes that were read, an error that error.
pub report_says : {r : Result Report Error} (p : Reported r) →
    ((k : ℕ) → p.turn.got ≡ Ok k → r ≡ Ok (input_report p.input.bytes)) × ((e : Error) → p.turn.got ≡ Err e → r ≡ Err e)
report_says p = (λ k e. rw e at p.answer, λ x e. rw e at p.answer)

-- A report that was written is lines at the front of the buffer, those of the bytes that were read; where the bytes that the reader had are known,
-- of all of them.
pub written_whole : (old new : Option (List ℕ)) {t : Turn} {r : Report} {b d : List ℕ} {n : ℕ} → InputTaken old new t →
    (Failed t.got → ⊥) → r ≡ report_of t.trace → Writes r b d n → IfSome old (λ xs. take n d ≡ text_of (input_report xs))
written_whole None new i good e w = tt
written_whole (Some xs) new i good e w = writes_front w ∙ ap text_of (e ∙ read_report i.input ∙ taken_report (Some xs) new i good)

pub written_says : {r : Report} (p : Reported (Ok r)) {b d : List ℕ} {n : ℕ} → Writes r b d n → take n d ≡ text_of (input_report p.input.bytes)
written_says p w = writes_front w ∙ ap text_of (answered_ok p.turn.got p.answer).0

pub written_lines : {r : Report} {b d : List ℕ} {n : ℕ} → Reported (Ok r) → Writes r b d n → (n ≤ length d) × ReportLines (take n d)
written_lines p w =
    let q = answered_ok p.turn.got p.answer in
    (w.fits, record { turn = p.turn; input = p.input; good = q.1; text = writes_front w ∙ ap text_of q.0 })

-- The lines of a report that was answered are those of the input's report.
pub report_lines : {r : Report} → Reported (Ok r) → ReportLines (text_of r)
report_lines p =
    let q = answered_ok p.turn.got p.answer in
    record { turn = p.turn; input = p.input; good = q.1; text = ap text_of q.0 }
