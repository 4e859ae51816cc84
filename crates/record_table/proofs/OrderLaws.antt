-- The laws of a whole table's record, field by field: the reader answers what the first failing check gives, and nothing else.
use Rattle.std.specs.Prelude.{Result, Err, Ok, Option, Some, None}
use mathlib.Core.Path.{◌≡◌, refl, sym, ap, ◌∙◌, subst}
use mathlib.Core.Logic.{◌↔◌}
use mathlib.Core.Bool.{Bool, true, false, cond, ◌&&◌, true≢false, and-true, and-false, or-false}
use mathlib.Core.List.{List, [], ◌∷◌, ◌++◌}
use Prim.Native.Nat.{ℕ, zero, suc, ◌+◌, ◌^◌}
use native.Mathlib.Omega.{arith}
use borrow.Author.Tests.{le-leb}
use lib.Dec.{eqb, leb, ltb}
use lib.ListN.{length, drop}
use mir.Syntax.{w64}
use mir.Val.{to_z}
use Rattle.integers.proofs.Balance.{Decided, yes, no, test}
use Rattle.refusal.specs.declared.Refusal.{Refusal}
use Rattle.refusal.specs.declared.Refusal.TheVariants.{Value, Layout, Record}
use Rattle.axis.specs.Kind.{sampled_kind, counter_kind}
use Rattle.axis.specs.Config.{good_config}
use Rattle.axis.proofs.TestLaws.{both}
use Rattle.tagged.specs.Bytes.{number_from, number_at, starts}
use Rattle.tagged.specs.Field.{stands_at}
use Rattle.tagged.proofs.BytesLaws.{starts_is}
use Rattle.record_axis.specs.Tags.{depth_tag}
use Rattle.record_axis.specs.AxisFields.{known_kind}
use Rattle.record_axis.proofs.AxisLaws.{on_field_lem}
use Rattle.record.specs.Tags.{layout_tag, end_tag}
use Rattle.record.specs.Order.{layout_in}
use Rattle.record.proofs.OrderLaws.{layout_is}
use Rattle.record_entry.specs.Entry.{counter_from, sampled_from, saved_at, numbered, entry_from}
use Rattle.record_entry.specs.declared.entry.Entry.{Entry}
use Rattle.record_table.specs.Opening.{table_opening}
use Rattle.record_table.specs.TableRecord.{on_entry, before, closes_at, entries_at, table_read_as}
use Rattle.record_table.specs.Order.{Wanted, count, number, kind, position, width, depth, turn, end, tag_of, size_of, fits}
use Rattle.record_table.specs.Order.{entries_left, field_after, adds}
use Rattle.record_table.specs.Order.{Goes, unshaped, unfit, on, whole, trailing, TableJudged, no_layout, other_layout, by_fields}
use Rattle.record_axis.specs.declared.saved.Saved.{Saved}

-- ---- one answer

-- From one place on there is one answer.
goes_one : {s : List ℕ} {w : Option Wanted} {at : ℕ} {a b : Result (List Entry) Refusal} → Goes s w at a → Goes s w at b → a ≡ b
goes_one (unshaped p) (unshaped q) = refl
goes_one (unshaped p) (unfit q f) = absurd (true≢false (sym q ∙ p))
goes_one (unshaped p) (on q f g) = absurd (true≢false (sym q ∙ p))
goes_one (unfit p f) (unshaped q) = absurd (true≢false (sym p ∙ q))
goes_one (unfit p f) (unfit q g) = refl
goes_one (unfit p f) (on q g h) = absurd (true≢false (sym g ∙ f))
goes_one (on p f g) (unshaped q) = absurd (true≢false (sym p ∙ q))
goes_one (on p f g) (unfit q h) = absurd (true≢false (sym f ∙ h))
goes_one (on {w} {at} p f g) (on q h i) = ap (adds w _) (goes_one g i)
goes_one (whole p) (whole q) = refl
goes_one (whole p) (trailing q) = absurd (true≢false (sym p ∙ q))
goes_one (trailing p) (whole q) = absurd (true≢false (sym q ∙ p))
goes_one (trailing p) (trailing q) = refl

-- ---- the limits of a width and of a depth, by themselves

width_fits : (m v : ℕ) → counter_kind m ≡ true → good_config m 0 v 0 ≡ (leb 2 v && leb v 32)
unfolding good_config
width_fits m v k = rw (k, and-false (sampled_kind m), and-true, and-true)

depth_fits : (m v : ℕ) → sampled_kind m ≡ true → good_config m v 0 0 ≡ (leb 1 v && leb v 8)
unfolding good_config
depth_fits m v k = rw (k, and-false (counter_kind m), and-true, and-true, or-false)

turn_fits : (m d v : ℕ) → sampled_kind m ≡ true → (leb 1 d && leb d 8) ≡ true → good_config m d 0 v ≡ ltb v (2 ^ 32)
unfolding good_config
turn_fits m d v k f =
    let p = both (leb 1 d) (leb d 8) f in
    rw (k, p.0, p.1, and-false (counter_kind m), or-false)

-- What holds behind a check that holds.
under : (t : Bool) (z : Result (List Entry) Refusal) {x y : Result (List Entry) Refusal} → (t ≡ true → x ≡ y) → cond t x z ≡ cond t y z
under true z f = f refl
under false z f = refl

module _ (s : List ℕ) where
  -- The answer of a field by what the rest answers.
  abbrev step : Wanted → ℕ → Result (List Entry) Refusal → Result (List Entry) Refusal
  step w at a =
      cond (stands_at s at (tag_of w) (size_of w))
      (cond (fits w (number_at s (at + 3) (size_of w))) (adds w (number_at s (at + 3) (size_of w)) a) (Err Value)) (Err Record)

  -- It is what the checks give.
  goes_step : (w : Wanted) (at : ℕ) (a : Result (List Entry) Refusal) →
      (fits w (number_at s (at + 3) (size_of w)) ≡ true → Goes s (field_after w (number_at s (at + 3) (size_of w))) (at + 3 + size_of w) a) →
      Goes s (Some w) at (step w at a)
  goes_step w at a more = go (test (stands_at s at (tag_of w) (size_of w))) (test (fits w (number_at s (at + 3) (size_of w))))
    where
      go : Decided (stands_at s at (tag_of w) (size_of w)) → Decided (fits w (number_at s (at + 3) (size_of w))) → Goes s (Some w) at
          (step w at a)
      go (no t) f = rw t (unshaped t)
      go (yes t) (no f) = rw (t, f) (unfit t f)
      go (yes t) (yes f) = rw (t, f) (on t f (more f))

  -- ---- an entry as checks

  -- What an entry's answer says with the rest.
  abbrev on_saved : ℕ → ℕ → Result (Saved × ℕ) Refusal → Result (List Entry) Refusal
  on_saved left k x = on_entry (numbered k x) (λ e at. before e (entries_at left s at (suc e.axis)))

  saved_check : (left k : ℕ) (t : Bool) (x : Result (Saved × ℕ) Refusal) (r : Refusal) → on_saved left k (cond t x (Err r)) ≡ cond t
      (on_saved left k x) (Err r)
  saved_check left k true x r = refl
  saved_check left k false x r = refl

  entry_check : (t : Bool) (x : Result (Entry × ℕ) Refusal) (r : Refusal) (f : Entry → ℕ → Result (List Entry) Refusal) → on_entry (cond t x (Err r)) f ≡ cond t
      (on_entry x f) (Err r)
  entry_check true x r f = refl
  entry_check false x r f = refl

  counter_step : (left k m at bits : ℕ) → counter_kind m ≡ true →
      on_saved left k (counter_from s at m (to_z w64 bits)) ≡ step (width left k m bits) at (entries_at left s (at + 3 + 1) (suc k))
  unfolding counter_from
  counter_step left k m at bits c = rw (on_field_lem, saved_check left k, saved_check left k, width_fits m (number_at s (at + 3) 1) c)

  sampled_step : (left k m at bits : ℕ) → sampled_kind m ≡ true →
      on_saved left k (sampled_from s at m (to_z w64 bits))
      ≡ step (depth left k m bits) at (step (turn left k m bits (number_at s (at + 3) 1)) (at + 3 + 1) (entries_at left s
      (at + 3 + 1 + 3 + 4) (suc k)))
  unfolding sampled_from
  sampled_step left k m at bits c =
      rw (on_field_lem, saved_check left k, saved_check left k, depth_fits m d c, on_field_lem, saved_check left k, saved_check left k)
      (under (stands_at s at depth_tag 1) (Err Record)
      (λ _. under (leb 1 d && leb d 8) (Err Value) (λ f. rw (turn_fits m d v c f))))
    where
      d : ℕ
      d = number_at s (at + 3) 1

      v : ℕ
      v = number_at s (at + 3 + 1 + 3) 4

  saved_step : (left k at : ℕ) →
      on_saved left k (saved_at s at)
      ≡ step (kind left k) at
      (step (position left k (number_at s (at + 3) 1)) (at + 3 + 1)
      (on_saved left k
      (cond (counter_kind (number_at s (at + 3) 1))
      (counter_from s (at + 3 + 1 + 3 + 8) (number_at s (at + 3) 1) (to_z w64 (number_at s (at + 3 + 1 + 3) 8)))
      (sampled_from s (at + 3 + 1 + 3 + 8) (number_at s (at + 3) 1) (to_z w64 (number_at s (at + 3 + 1 + 3) 8))))))
  unfolding saved_at
  saved_step left k at =
      rw (on_field_lem, saved_check left k, saved_check left k, on_field_lem, saved_check left k, saved_check left k)

  entry_step : (left at least : ℕ) →
      entries_at (suc left) s at least ≡ step (number left least) at (on_saved left (number_at s (at + 3) 1) (saved_at s (at + 3 + 1)))
  unfolding entries_at entry_from
  entry_step left at least = rw (on_field_lem, entry_check, entry_check)

  end_step : (at : ℕ) →
      cond (closes_at s at) (Ok []) (Err Record) ≡ step end at (cond (eqb (length s) (at + 3 + 0)) (Ok []) (Err Record))
  unfolding closes_at
  end_step at = rw on_field_lem (go (stands_at s at end_tag 0) (eqb (length s) (at + 3 + 0)))
    where
      go : (t u : Bool) →
          cond {A = Result (List Entry) Refusal} (cond t u false) (Ok []) (Err Record) ≡ cond t (cond true (cond u (Ok []) (Err Record)) (Err Value))
          (Err Record)
      go true u = refl
      go false u = refl

  -- ---- the reader, field by field

  -- The end, and nothing after it.
  goes_end : (at : ℕ) → Goes s (Some end) at (cond (closes_at s at) (Ok []) (Err Record))
  goes_end at = rw (end_step at) (goes_step end at _ (λ _. go (test (eqb (length s) (at + 3 + 0)))))
    where
      go : Decided (eqb (length s) (at + 3 + 0)) → Goes s None (at + 3 + 0) (cond (eqb (length s) (at + 3 + 0)) (Ok [])
          (Err Record))
      go (yes e) = rw e (whole e)
      go (no e) = rw e (trailing e)

  module _ (left : ℕ)
      (more : (at least : ℕ) → Goes s (Some (entries_left left least)) at (entries_at left s at least)) where
    -- The fields of an axis after its position.
    goes_rest : (k m at bits : ℕ) → known_kind m ≡ true →
        Goes s (Some (cond (counter_kind m) (width left k m bits) (depth left k m bits))) at
        (on_saved left k (cond (counter_kind m) (counter_from s at m (to_z w64 bits)) (sampled_from s at m (to_z w64 bits))))
    goes_rest k m at bits known = go (test (counter_kind m))
      where
        go : Decided (counter_kind m) →
            Goes s (Some (cond (counter_kind m) (width left k m bits) (depth left k m bits))) at
            (on_saved left k (cond (counter_kind m) (counter_from s at m (to_z w64 bits)) (sampled_from s at m (to_z w64 bits))))
        go (yes c) = rw (c, counter_step left k m at bits c) (goes_step (width left k m bits) at _ (λ _. more (at + 3 + 1) (suc k)))
        go (no c) =
            let sampled : sampled_kind m ≡ true = sym (or-false (sampled_kind m)) ∙ rw c at known in
            rw (c, sampled_step left k m at bits sampled)
            (goes_step (depth left k m bits) at _
            (λ _. goes_step (turn left k m bits (number_at s (at + 3) 1)) (at + 3 + 1) _ (λ _. more (at + 3 + 1 + 3 + 4) (suc k))))

    -- An entry, and what follows it.
    goes_entry : (at least : ℕ) → Goes s (Some (number left least)) at (entries_at (suc left) s at least)
    goes_entry at least =
        let k = number_at s (at + 3) 1 in
        let m = number_at s (at + 3 + 1 + 3) 1 in
        let bits = number_at s (at + 3 + 1 + 3 + 1 + 3) 8 in
        rw (entry_step left at least, saved_step left k (at + 3 + 1))
        (goes_step (number left least) at _
        (λ _. goes_step (kind left k) (at + 3 + 1) _
        (λ known. goes_step (position left k m) (at + 3 + 1 + 3 + 1) _
        (λ _. goes_rest k m (at + 3 + 1 + 3 + 1 + 3 + 8) bits known))))

  goes_entries : (left at least : ℕ) → Goes s (Some (entries_left left least)) at (entries_at left s at least)
  unfolding entries_at
  goes_entries zero at least = goes_end at
  goes_entries (suc left) at least = goes_entry left (goes_entries left) at least

  -- The whole record after the opening.
  goes_fields : starts table_opening s ≡ true → Goes s (Some count) 5 (table_read_as s)
  unfolding table_read_as
  goes_fields o = rw (o, on_field_lem) (goes_step count 5 _ (λ _. goes_entries (number_at s 8 1) 9 0))

-- ---- the answer to a slice

-- A slice with the opening of any layout has a layout field.
pub opened_stands : (a b : ℕ) (s : List ℕ) → starts (1 ∷ 0 ∷ 2 ∷ a ∷ b ∷ []) s ≡ true → stands_at s 0 layout_tag 2 ≡ true
unfolding number_from
opened_stands a b s o =
    let front : List ℕ = 1 ∷ 0 ∷ 2 ∷ a ∷ b ∷ [] in
    subst (λ (l : List ℕ). stands_at l 0 layout_tag 2 ≡ true) (sym (starts_is front s o))
    (rw (le-leb 5 (length (front ++ drop 5 s)) (omega arith)))

module _ (s : List ℕ) (o : starts table_opening s ≡ false) where
  -- Without it a layout field gives its number, and RECORD stands for none.
  pub named : stands_at s 0 layout_tag 2 ≡ true → table_read_as s ≡ Err (Layout (layout_in s))
  unfolding table_read_as
  named t = rw (o, layout_is s, t)

  pub unnamed : stands_at s 0 layout_tag 2 ≡ false → table_read_as s ≡ Err Record
  unfolding table_read_as
  unnamed t = rw (o, layout_is s, t)

-- The reader answers exactly what the checks in their order give.
pub table_exactly : (s : List ℕ) (r : Result (List Entry) Refusal) → (table_read_as s ≡ r) ↔ TableJudged s r
table_exactly s r =
    (λ e. subst (TableJudged s) e (judged (test (starts table_opening s)) (test (stands_at s 0 layout_tag 2))), judges)
  where
    judged : Decided (starts table_opening s) → Decided (stands_at s 0 layout_tag 2) → TableJudged s (table_read_as s)
    judged (yes o) t = by_fields o (goes_fields s o)
    judged (no o) (yes t) = other_layout t o (named s o t)
    judged (no o) (no t) = no_layout t (unnamed s o t)

    absent : stands_at s 0 layout_tag 2 ≡ false → Decided (starts table_opening s) → table_read_as s ≡ Err Record
    absent t (yes o) = absurd (true≢false (sym (opened_stands 0 2 s o) ∙ t))
    absent t (no o) = unnamed s o t

    judges : TableJudged s r → table_read_as s ≡ r
    judges (no_layout t e) = absent t (test (starts table_opening s)) ∙ sym e
    judges (other_layout t o e) = named s o t ∙ sym e
    judges (by_fields o g) = goes_one (goes_fields s o) g
