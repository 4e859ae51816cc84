-- The laws of a sample's entry and of its double bit.
use mathlib.Core.Path.{◌≡◌, refl, sym, ◌∙◌, ap}
use mathlib.Core.Bool.{Bool, true, false, cond, not, ◌&&◌, beq, true≢false}
use mathlib.Core.List.{List, [], ◌∷◌}
use mathlib.Core.Logic.{◌↔◌}
use Prim.Native.Nat.{◌+◌, ◌/◌, ◌%◌, ◌<◌}
use lib.Dec.{eqb, lit<}
use Rattle.fields.specs.Field.{bit_of}
use Rattle.axis.specs.declared.row.Axis.{Axis}
use Rattle.axis_filter.specs.Lines.{A, B}
use Rattle.axis_decode.specs.Decode.{code, entry, opposite, is_e}
use Rattle.axis_decode.proofs.TableLaws.{double_opposite}
use Rattle.axis_decode.specs.declared.Move.{Move}
use Rattle.axis_decode.specs.declared.Move.TheVariants.{Still, Forward, Back, Double}
use Rattle.axis_filter.specs.declared.Raw.{Raw}
use Rattle.history_axis.specs.Acts.{Act, sampled}
use Rattle.history_axis.specs.Levels.{primed_at, level_at}
use Rattle.history_axis.specs.Entries.{code_at, entry_at, number_of_e, both_change, double_at}

is_double : (m : Move) → is_e m ≡ true → m ≡ Double
unfolding is_e
is_double Still e = absurd (true≢false (sym e))
is_double Forward e = absurd (true≢false (sym e))
is_double Back e = absurd (true≢false (sym e))
is_double Double e = refl

module _ (x : Axis) (s : Raw) (h : List Act) where
  -- A sample on a primed axis has an entry, and one that primes has none.
  pub entry_primed : primed_at x h ≡ true → entry_at x s h ≡ entry x.config.kind (code_at x h) (code_at x (sampled s ∷ h)) ∷ []
  unfolding entry_at
  entry_primed q = rw q

  pub entry_none : primed_at x h ≡ false → entry_at x s h ≡ []
  unfolding entry_at
  entry_none q = rw q

  -- The double bit of a sample by its entry.
  pub double_entry : (m : Move) → entry_at x s h ≡ m ∷ [] → double_at x s h ≡ is_e m
  unfolding double_at number_of_e
  double_entry m e = rw e (counted (is_e m))
    where
      counted : (b : Bool) → eqb (0 + cond b 1 0) 1 ≡ b
      counted true = refl
      counted false = refl

  pub double_none : entry_at x s h ≡ [] → double_at x s h ≡ false
  unfolding double_at number_of_e
  double_none e = rw e

  -- The double bit of a history's sample stands exactly where its entry is E.
  pub double_exactly : (double_at x s h ≡ true) ↔ (entry_at x s h ≡ Double ∷ [])
  unfolding is_e
  double_exactly = (λ d. go (primed_at x h) refl d, λ e. double_entry Double e)
    where
      go : (b : Bool) → primed_at x h ≡ b → double_at x s h ≡ true → entry_at x s h ≡ Double ∷ []
      go true q d =
          let e = entry_primed q in
          e ∙ ap (λ (m : Move). m ∷ []) (is_double _ (sym (double_entry _ e) ∙ d))
      go false q d = absurd (true≢false (sym d ∙ double_none (entry_none q)))

-- ---- a double step in words of the filtered lines

-- The two lines of a code.
low_line : (a b : Bool) → code a b % 2 ≡ bit_of a
low_line true true = refl
low_line true false = refl
low_line false true = refl
low_line false false = refl

high_line : (a b : Bool) → code a b / 2 ≡ bit_of b
high_line true true = refl
high_line true false = refl
high_line false true = refl
high_line false false = refl

same_bit : (a b : Bool) → eqb (bit_of a) (bit_of b) ≡ beq a b
same_bit true true = refl
same_bit true false = refl
same_bit false true = refl
same_bit false false = refl

below_four : (a b : Bool) → code a b < 4
below_four true true = lit< tt
below_four true false = lit< tt
below_four false true = lit< tt
below_four false false = lit< tt

-- Two codes are opposite where the levels of both lines differ.
both_differ : (a b c d : Bool) → opposite (code a b) (code c d) ≡ (not (beq a c) && not (beq b d))
unfolding opposite
both_differ a b c d = rw (low_line a b, low_line c d, high_line a b, high_line c d, same_bit a c, same_bit b d)

-- The double bit of a history's sample stands exactly where the axis is primed and both filtered lines change.
pub double_lines : (x : Axis) (s : Raw) (h : List Act) → double_at x s h ≡ (primed_at x h && both_change x s h)
unfolding code_at both_change
double_lines x s h = go (primed_at x h) refl
  where
    go : (p : Bool) → primed_at x h ≡ p → double_at x s h ≡ (p && both_change x s h)
    go false q = double_none x s h (entry_none x s h q)
    go true q =
        let next = sampled s ∷ h in
        double_entry x s h _ (entry_primed x s h q)
        ∙ double_opposite x.config.kind _ _ (below_four (level_at x A h) (level_at x B h))
        (below_four (level_at x A next) (level_at x B next))
        ∙ both_differ (level_at x A h) (level_at x B h) (level_at x A next) (level_at x B next)
