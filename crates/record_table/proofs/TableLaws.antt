-- The promises of a whole table's record: docs/RULES.md, "The record of a whole table".
use Rattle.std.specs.Prelude.{Result, Ok, Err, ⊤, Option}
use mathlib.Core.Path.{◌≡◌, refl, sym, ap, ◌∙◌, subst}
use mathlib.Core.Logic.{◌≢◌, ◌↔◌, ◌⊎◌, inl, inr}
use mathlib.Core.Bool.{true, false, true≢false}
use mathlib.Core.List.{List, [], ◌∷◌, ◌++◌}
use Prim.Native.Nat.{ℕ, ◌^◌, ◌<◌}
use native.Mathlib.Omega.{arith}
use borrow.Author.Tests.{le-leb}
use lib.ListN.{length, take, drop}
use Rattle.integers.proofs.Balance.{Decided, yes, no, test}
use Rattle.refusal.proofs.OutcomeLaws.{one}
use Rattle.refusal.specs.declared.Refusal.{Refusal}
use Rattle.refusal.specs.declared.Refusal.TheVariants.{Value, Layout, Record}
use Rattle.tagged.specs.Bytes.{AllBytes, number_in, number_from, bytes_of, starts}
use Rattle.tagged.specs.Field.{stands_at, field_bytes}
use Rattle.tagged.proofs.BytesLaws.{number_back, starts_is}
use Rattle.record_axis.specs.declared.saved.Saved.{Saved}
use Rattle.record.specs.Opening.{opening}
use Rattle.axis.proofs.TestLaws.{refuted}
use Rattle.record_axis.specs.AxisFields.{axis_bytes}
use Rattle.record.specs.Tags.{layout_tag, end_tag}
use Rattle.record.specs.Order.{layout_in}
use Rattle.record.specs.Record.{read_as, tested_as, record_of}
use Rattle.record.proofs.RecordLaws.{test_accepts, layout_refused, accepted_opens}
use Rattle.record_entry.specs.declared.entry.Entry.{Entry}
use Rattle.record_table.specs.Opening.{table_opening}
use Rattle.record_table.specs.Tags.{count_tag}
use Rattle.record_table.specs.TableRecord.{table_read_as, tested_table, tested_either}
use Rattle.record_table.specs.TableRecord.{entries_bytes, table_front, table_record_of, Tellable}
use Rattle.record_table.specs.Survey.{survey_of}
use Rattle.record_table.specs.Order.{Wanted, count, number, kind, position, width, depth, turn, end, adds}
use Rattle.record_table.specs.Order.{Goes, unshaped, unfit, on, whole, trailing, TableJudged, no_layout, other_layout, by_fields}
use Rattle.record_table.proofs.RoundTrip.{written_read, read_written, read_opens}
use Rattle.record_table.proofs.OrderLaws.{table_exactly, named, unnamed, opened_stands}

-- ---- round trips

-- What can be told is read back as it was written.
pub read_back : (es : List Entry) → Tellable es → table_read_as (table_record_of es) ≡ Ok es
read_back es t = written_read es t

-- A slice of bytes that is accepted is the one record of the axes that it says.
pub one_encoding : (s : List ℕ) (es : List Entry) → AllBytes s → table_read_as s ≡ Ok es → table_record_of es ≡ s
one_encoding s es b h = read_written s es b h

-- Two slices of bytes that are accepted and say the same axes are the same.
pub one_slice : (s t : List ℕ) (es : List Entry) → AllBytes s → AllBytes t → table_read_as s ≡ Ok es → table_read_as t ≡ Ok es → s ≡ t
one_slice s t es b c h k = sym (one_encoding s es b h) ∙ one_encoding t es c k

-- ---- layouts

-- No slice opens with both.
openings_apart : (s : List ℕ) → starts table_opening s ≡ true → starts opening s ≡ false
unfolding starts
openings_apart s o = subst (λ (l : List ℕ). starts opening l ≡ false) (sym (starts_is table_opening s o)) refl

-- A slice with the layout field of a number has not the opening of another.
other_opening : (m n : ℕ) (rest : List ℕ) → n < 256 ^ 2 → n ≢ m →
    starts (1 ∷ 0 ∷ 2 ∷ 0 ∷ m ∷ []) (field_bytes layout_tag 2 n ++ rest) ≡ false
unfolding field_bytes bytes_of number_from
other_opening m n rest h other = go (test (starts front s))
  where
    s : List ℕ
    s = field_bytes layout_tag 2 n ++ rest

    front : List ℕ
    front = 1 ∷ 0 ∷ 2 ∷ 0 ∷ m ∷ []

    go : Decided (starts front s) → starts front s ≡ false
    go (no e) = e
    go (yes e) =
        let same = sym (number_back 2 n h) ∙ ap (λ (l : List ℕ). number_in (take 2 (drop 3 l))) (starts_is front s e) in
        absurd (other (omega (arith, same)))

-- A slice that opens 01 00 02 and then a number other than 2, whatever follows, is refused by LAYOUT with that number: a record of layout 1
-- with 1.
pub table_layout : (n : ℕ) (rest : List ℕ) → n < 256 ^ 2 → n ≢ 2 → table_read_as (field_bytes layout_tag 2 n ++ rest) ≡ Err (Layout n)
unfolding field_bytes bytes_of number_from
table_layout n rest h other =
    let s = field_bytes layout_tag 2 n ++ rest in
    named s (other_opening 2 n rest h other) (rw (le-leb 5 (length s) (omega arith))) ∙ ap (λ (m : ℕ). Err (Layout m))
    (number_back 2 n h)

-- Layout 1's reader refuses every record of a whole table by LAYOUT with 2.
pub record_two : (es : List Entry) → read_as (table_record_of es) ≡ Err (Layout 2)
unfolding table_record_of table_front field_bytes bytes_of
record_two es =
    (layout_refused 2 (field_bytes count_tag 1 (length es) ++ (entries_bytes es ++ field_bytes end_tag 0 0)) (omega arith) (λ e. omega arith)).0

-- This reader refuses every record of layout 1 by LAYOUT with 1.
pub table_one : (s : Saved) → table_read_as (record_of s) ≡ Err (Layout 1)
unfolding record_of field_bytes bytes_of
table_one s = table_layout 1 (axis_bytes s ++ field_bytes end_tag 0 0) (omega arith) (λ e. omega arith)

-- ---- the test of both

module _ (s : List ℕ) where
  -- A slice with layout 1's opening is judged by layout 1's rules, and any other by those of layout 2.
  pub either_first : starts opening s ≡ true → tested_either s ≡ tested_as s
  unfolding tested_either
  either_first o = rw o

  pub either_second : starts opening s ≡ false → tested_either s ≡ tested_table (table_read_as s)
  unfolding tested_either
  either_second o = rw o

  -- It accepts exactly what one of the two readers accepts.
  pub either_accepts :
      (tested_either s ≡ Ok tt) ↔ (((said : Saved) × (read_as s ≡ Ok said)) ⊎ ((es : List Entry) × (table_read_as s ≡ Ok es)))
  either_accepts = (λ p. to p (test (starts opening s)), from)
    where
      said : (x : Result (List Entry) Refusal) → table_read_as s ≡ x → tested_table x ≡ Ok tt → (es : List Entry) × (table_read_as s ≡ Ok es)
      said (Ok es) q p = (es, q)
      said (Err r) q p = absurd (let z : ◌≡◌ {A = ℕ} 0 1 = cc in omega arith)

      to : tested_either s ≡ Ok tt → Decided (starts opening s) →
          ((said : Saved) × (read_as s ≡ Ok said)) ⊎ ((es : List Entry) × (table_read_as s ≡ Ok es))
      to p (yes o) = inl ((test_accepts s).0 (sym (either_first o) ∙ p))
      to p (no o) = inr (said (table_read_as s) refl (sym (either_second o) ∙ p))

      from : ((said : Saved) × (read_as s ≡ Ok said)) ⊎ ((es : List Entry) × (table_read_as s ≡ Ok es)) → tested_either s ≡ Ok tt
      from (inl a) = either_first (accepted_opens s a.0 a.1) ∙ (test_accepts s).1 a.0 a.1
      from (inr a) = either_second (openings_apart s (read_opens s a.0 a.1)) ∙ rw a.1

  -- A slice without a layout field is RECORD.
  pub either_none : stands_at s 0 layout_tag 2 ≡ false → tested_either s ≡ Err Record
  either_none t =
      either_second (refuted (starts opening s) (λ o. true≢false (sym (opened_stands 0 1 s o) ∙ t)))
      ∙ rw (unnamed s (refuted (starts table_opening s) (λ o. true≢false (sym (opened_stands 0 2 s o) ∙ t))) t)

-- A third layout is refused by LAYOUT with its number.
pub either_third : (n : ℕ) (rest : List ℕ) → n < 256 ^ 2 → n ≢ 1 → n ≢ 2 → tested_either (field_bytes layout_tag 2 n ++ rest) ≡ Err
    (Layout n)
either_third n rest h a b = either_second (field_bytes layout_tag 2 n ++ rest) (other_opening 1 n rest h a) ∙ rw (table_layout n rest h b)

-- ---- reasons

-- What adds to a refusal is that refusal.
adds_unsaid : (w : Wanted) (v : ℕ) (a : Result (List Entry) Refusal) (e : Refusal) → adds w v a ≡ Err e → a ≡ Err e
adds_unsaid count v a e q = q
adds_unsaid (number left least) v a e q = q
adds_unsaid (kind left k) v a e q = q
adds_unsaid (position left k m) v a e q = q
adds_unsaid (width left k m bits) v (Ok es) e q = absurd (let z : ◌≡◌ {A = ℕ} 0 1 = cc in omega arith)
adds_unsaid (width left k m bits) v (Err r) e q = q
adds_unsaid (depth left k m bits) v a e q = q
adds_unsaid (turn left k m bits d) v (Ok es) e q = absurd (let z : ◌≡◌ {A = ℕ} 0 1 = cc in omega arith)
adds_unsaid (turn left k m bits d) v (Err r) e q = q
adds_unsaid end v a e q = q

-- What a record is refused for is LAYOUT, RECORD or VALUE: what holds of these holds of its reason.
module _ (P : Refusal → Type 0) (value : P Value) (shape : P Record) where
  goes_reason : {s : List ℕ} {f : Option Wanted} {at : ℕ} {a : Result (List Entry) Refusal} → Goes s f at a → (e : Refusal) → a ≡ Err e → P e
  goes_reason (unshaped p) e q = subst P (let same : Record ≡ e = cc in same) shape
  goes_reason (unfit p f) e q = subst P (let same : Value ≡ e = cc in same) value
  goes_reason (on {w} {at} {a} p f g) e q = goes_reason g e (adds_unsaid w _ a e q)
  goes_reason (whole p) e q = absurd (let z : ◌≡◌ {A = ℕ} 0 1 = cc in omega arith)
  goes_reason (trailing p) e q = subst P (let same : Record ≡ e = cc in same) shape

  pub unread_reason : ((n : ℕ) → P (Layout n)) → (s : List ℕ) (e : Refusal) → table_read_as s ≡ Err e → P e
  unread_reason layout s e h = go ((table_exactly s (Err e)).0 h)
    where
      go : TableJudged s (Err e) → P e
      go (no_layout t q) = subst P (let same : Record ≡ e = cc in same) shape
      go (other_layout t o q) = subst P (let same : Layout (layout_in s) ≡ e = cc in same) (layout (layout_in s))
      go (by_fields o g) = goes_reason g e refl

-- ---- one outcome

-- Reading a slice has one outcome.
pub read_table_one : (s : List ℕ) (q r : Result (ℕ × ℕ) Refusal) → q ≡ survey_of (table_read_as s) → r ≡ survey_of (table_read_as s) → q ≡ r
read_table_one s q r = one

-- Testing a slice for both layouts has one outcome.
pub test_any_one : (s : List ℕ) (q r : Result ⊤ Refusal) → q ≡ tested_either s → r ≡ tested_either s → q ≡ r
test_any_one s q r = one
