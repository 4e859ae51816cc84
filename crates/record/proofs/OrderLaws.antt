-- The laws of a record's checks in their order.
use Rattle.std.specs.Prelude.{Result, Ok, Err, Some, None}
use mathlib.Core.Path.{◌≡◌, refl, sym, ◌∙◌, subst}
use mathlib.Core.Bool.{Bool, true, false, not, cond, ◌&&◌}
use mathlib.Core.List.{List}
use Prim.Native.Nat.{ℕ, ◌+◌}
use lib.Dec.{T, eqb}
use lib.ListN.{length}
use Rattle.integers.proofs.Balance.{Decided, yes, no, test}
use Rattle.refusal.specs.declared.Refusal.{Refusal}
use Rattle.refusal.specs.declared.Refusal.TheVariants.{Value, Layout, Record}
use Rattle.axis.specs.declared.config.Config.{Config}
use Rattle.tagged.specs.Bytes.{number_at, starts}
use Rattle.tagged.specs.Field.{stands_at, field_at}
use Rattle.record.specs.Opening.{opening}
use Rattle.record_axis.specs.Tags.{kind_tag, depth_tag, width_tag, turn_tag}
use Rattle.record.specs.Tags.{layout_tag, end_tag}
use Rattle.record_axis.specs.AxisFields.{known_kind, counter_as, sampled_as, counter_at, sampled_at, axis_at}
use Rattle.record_axis.proofs.AxisLaws.{on_field_lem}
use Rattle.record_axis.specs.Limits.{within_limits, saying}
use Rattle.record.specs.Record.{check, layout_found, layout_refusal, ended_at, on_axis, read_as}
use Rattle.record.specs.Order.{has_other_layout, layout_in, nine_stand, kind_in, rest_stands, said_in}
use Rattle.record.specs.Order.{Judged, other_layout, bad_nine, bad_kind, bad_rest, bad_value, all_good}
use Rattle.record_axis.specs.declared.saved.Saved.{Saved}

-- ---- the fields' answers as checks

-- A check of an axis's fields is one of the record.
on_axis_lem : (t : Bool) (x : Result (Config × ℕ × ℕ) Refusal) (r : Refusal) (k : Config → ℕ → ℕ → Result Saved Refusal) → on_axis (cond t x (Err r)) k ≡ check t r (on_axis x k)
on_axis_lem true x r k = refl
on_axis_lem false x r k = refl

on_kind : (t : Bool) (x y : Result (Config × ℕ × ℕ) Refusal) (k : Config → ℕ → ℕ → Result Saved Refusal) → on_axis (cond t x y) k ≡ cond t (on_axis x k) (on_axis y k)
on_kind true x y k = refl
on_kind false x y k = refl

-- Two checks with one refusal are one check of both.
both : (a b : Bool) (r : Refusal) (x : Result Saved Refusal) → check a r (check b r x) ≡ check (a && b) r x
both true b r x = refl
both false b r x = refl

-- The limits of what a configuration and the bits of a position say, after a check of the shape.
abbrev judge : Bool → Config → ℕ → Result Saved Refusal
judge t c bits = check t Record (check (within_limits (saying c bits)) Value (Ok (saying c bits)))

-- What follows an axis's fields in a record.
abbrev on : List ℕ → Result (Config × ℕ × ℕ) Refusal → Result Saved Refusal
on s x = on_axis x (λ c bits at. ended_at s at c bits)

ended_is : (s : List ℕ) (at : ℕ) (c : Config) (bits : ℕ) →
    ended_at s at c bits ≡ check (stands_at s at end_tag 0) Record (judge (eqb (length s) (at + 3 + 0)) c bits)
unfolding ended_at
ended_is s at c bits = rw on_field_lem

counter_is : (s : List ℕ) (kind bits : ℕ) →
    on s (counter_at s 20 kind bits)
    ≡ judge (stands_at s 20 width_tag 1 && stands_at s 24 end_tag 0 && eqb (length s) 27) (counter_as kind (number_at s 23 1)) bits
unfolding counter_at
counter_is s kind bits = rw (on_field_lem, on_axis_lem, ended_is, both, both)

sampled_is : (s : List ℕ) (kind bits : ℕ) →
    on s (sampled_at s 20 kind bits)
    ≡ judge (stands_at s 20 depth_tag 1 && stands_at s 24 turn_tag 4 && stands_at s 31 end_tag 0 && eqb (length s) 34)
    (sampled_as kind (number_at s 23 1) (number_at s 27 4)) bits
unfolding sampled_at
sampled_is s kind bits = rw (on_field_lem, on_field_lem, on_axis_lem, on_axis_lem, ended_is, both, both, both)

by_kind : (k t u : Bool) (c d : Config) (bits : ℕ) → cond k (judge t c bits) (judge u d bits) ≡ judge (cond k t u) (cond k c d) bits
by_kind true t u c d bits = refl
by_kind false t u c d bits = refl

-- LAYOUT is looked at before the opening's other bytes.
layout_first : (o t : Bool) (n next : ℕ) (x : Result Saved Refusal) →
    check o (layout_found (cond t (Some (n, next)) None)) x ≡ check (not (t && not o)) (Layout n) (check o Record x)
layout_first true true n next x = refl
layout_first true false n next x = refl
layout_first false true n next x = refl
layout_first false false n next x = refl

pub layout_is : (s : List ℕ) → layout_refusal s ≡ layout_found (cond (stands_at s 0 layout_tag 2) (Some (layout_in s, 5)) None)
unfolding layout_refusal field_at
layout_is s = refl

-- The checks one after another, each by itself.
in_order : (s : List ℕ)
    → read_as s
    ≡ check (not (has_other_layout s)) (Layout (layout_in s))
    (check (nine_stand s) Record
    (check (known_kind (kind_in s)) Value
    (check (rest_stands s) Record
    (check (within_limits (said_in s)) Value
    (Ok (said_in s))))))
unfolding read_as axis_at has_other_layout nine_stand rest_stands said_in
in_order s =
    rw (layout_is, layout_first, on_field_lem, on_axis_lem, both, on_axis_lem, on_field_lem, on_axis_lem, on_kind, counter_is, sampled_is, by_kind, both)

-- A slice with the opening is of no other layout.
one_layout : (s : List ℕ) → nine_stand s ≡ true → has_other_layout s ≡ false
unfolding nine_stand has_other_layout
one_layout s n = go (starts opening s) (stands_at s 5 kind_tag 1) (stands_at s 0 layout_tag 2) n
  where
    go : (o u t : Bool) → (o && u) ≡ true → (t && not o) ≡ false
    go true u true h = refl
    go true u false h = refl
    go false u t h = absurd (subst T (sym h) tt)

judged : (s : List ℕ) → Judged s (read_as s)
judged s =
    go (test (has_other_layout s)) (test (nine_stand s)) (test (known_kind (kind_in s))) (test (rest_stands s)) (test (within_limits (said_in s)))
  where
    go : Decided (has_other_layout s) → Decided (nine_stand s) → Decided (known_kind (kind_in s)) → Decided (rest_stands s) →
        Decided (within_limits (said_in s)) → Judged s (read_as s)
    go (yes l) _ _ _ _ = other_layout l (in_order s ∙ rw l)
    go (no l) (no n) _ _ _ = bad_nine l n (in_order s ∙ rw (l, n))
    go (no l) (yes n) (no k) _ _ = bad_kind n k (in_order s ∙ rw (l, n, k))
    go (no l) (yes n) (yes k) (no r) _ = bad_rest n k r (in_order s ∙ rw (l, n, k, r))
    go (no l) (yes n) (yes k) (yes r) (no w) = bad_value n k r w (in_order s ∙ rw (l, n, k, r, w))
    go (no l) (yes n) (yes k) (yes r) (yes w) = all_good n k r w (in_order s ∙ rw (l, n, k, r, w))

judges : (s : List ℕ) {r : Result Saved Refusal} → Judged s r → read_as s ≡ r
judges s (other_layout l e) = in_order s ∙ rw l (sym e)
judges s (bad_nine l n e) = in_order s ∙ rw (l, n) (sym e)
judges s (bad_kind n k e) = in_order s ∙ rw (one_layout s n, n, k) (sym e)
judges s (bad_rest n k r e) = in_order s ∙ rw (one_layout s n, n, k, r) (sym e)
judges s (bad_value n k r w e) = in_order s ∙ rw (one_layout s n, n, k, r, w) (sym e)
judges s (all_good n k r w e) = in_order s ∙ rw (one_layout s n, n, k, r, w) (sym e)

-- A slice is answered by a reason, or accepted, exactly when the line of the first failing check says so.
pub exactly : (s : List ℕ) (r : Result Saved Refusal) → (read_as s ≡ r → Judged s r) × (Judged s r → read_as s ≡ r)
exactly s r = (λ e. subst (Judged s) e (judged s), judges s)
