-- The laws of the three transition tables: docs/RULES.md, "A port sample", Decode. Their rule is one test, computed at every pair of codes.
use Prim.Native.Nat.{ℕ, suc, ◌+◌, ◌/◌, ◌%◌, ◌<◌}
use mathlib.Core.Path.{◌≡◌, refl, sym, ap, ◌∙◌}
use mathlib.Core.Bool.{Bool, true, false, cond, not, ◌&&◌, ◌||◌, beq, true≢false}
use mathlib.Core.List.{List}
use native.Mathlib.Omega.{arith}
use borrow.Author.Tests.{eqb-true}
use lib.Dec.{T, eqb, eqb→eq, eqb_refl}
use lib.IntN.{ℤ, pos, negsuc, ◌+ℤ◌, nat_abs}
use mir.Syntax.{w8}
use mir.Val.{of_z}
use Rattle.integers.proofs.Balance.{Decided, yes, no, test}
use Rattle.axis.specs.Kind.{X1, X2, X4, sampled_kind}
use Rattle.axis_decode.specs.Decode.{x1, x2, x4, table_of, entry_in, entry, next_code, opposite, worth, is_e, mark}
use Rattle.axis_decode.specs.declared.Move.{Move}
use Rattle.axis_decode.specs.declared.Move.TheVariants.{Still, Forward, Back}
use Rattle.axis_decode.proofs.Check.{every, at}
use Rattle.axis_decode.proofs.DecodeLaws.{told, told_mark}

-- ---- the tests of the rule, and what each says when it passes

same : Move → Move → Bool
same m n = eqb (of_z w8 (mark m)) (of_z w8 (mark n))

same_is : (m n : Move) → T (same m n) → m ≡ n
unfolding same
same_is m n t = sym (told_mark m) ∙ ap told (eqb→eq (of_z w8 (mark m)) (of_z w8 (mark n)) t) ∙ told_mark n

zero_is : (z : ℤ) → T (eqb (nat_abs z) 0) → z ≡ pos 0
zero_is (pos n) t = ap pos (eqb→eq n 0 t)
zero_is (negsuc n) t = absurd (let e : suc n ≡ 0 = eqb→eq (suc n) 0 t in omega arith)

beq_is : (a b : Bool) → T (beq a b) → a ≡ b
beq_is true true t = refl
beq_is false false t = refl
beq_is true false t = absurd t
beq_is false true t = absurd t

implied : (a b : Bool) → T (not a || b) → T a → T b
implied true b t u = t
implied false b t u = absurd u

each : (a b c d e : Bool) → T (a && b && c && d && e) → T a × T b × T c × T d × T e
each true true true true true t = (tt, tt, tt, tt, tt)
each true true true true false t = absurd t
each true true true false e t = absurd t
each true true false d e t = absurd t
each true false c d e t = absurd t
each false b c d e t = absurd t

-- A test that passes at every pair of codes, at one of them.
at_pair : (f : ℕ → ℕ → Bool) → T (every 4 (λ i. every 4 (λ j. f i j))) → (i j : ℕ) → i < 4 → j < 4 → T (f i j)
at_pair f t i j a b = at 4 (f i) (at 4 (λ i. every 4 (λ j. f i j)) t i a) j b

-- ---- the rule of a table at one pair of codes, in five parts

module _ (rows : List (List Move)) (i j : ℕ) where
  -- The entries from i to j, and back.
  there : Move
  there = entry_in rows i j

  back : Move
  back = entry_in rows j i

  -- The two cancel.
  cancels : Bool
  cancels = eqb (nat_abs (worth there +ℤ worth back)) 0

  -- E is there exactly where both lines differ.
  doubles : Bool
  doubles = beq (is_e there) (opposite i j)

  -- + leads to the next code.
  ahead : Bool
  ahead = not (same there Forward) || eqb j (next_code i)

  -- - leads from the next code.
  behind : Bool
  behind = not (same there Back) || eqb i (next_code j)

  -- Equal codes are no step.
  stays : Bool
  stays = not (eqb i j) || same there Still

  fair : Bool
  fair = cancels && doubles && ahead && behind && stays

-- The three tables keep the rule at every pair of codes, as is computed.
fair_tables : (p q : Bool) → T (every 4 (λ i. every 4 (λ j. fair (cond p x4 (cond q x2 x1)) i j)))
unfolding there back cancels doubles ahead behind stays fair same worth is_e mark opposite next_code x1 x2 x4
fair_tables true q = tt
fair_tables false true = tt
fair_tables false false = tt

-- ---- the rule at each pair of codes, for every kind

module _ (kind i j : ℕ) (a : i < 4) (b : j < 4) where
  fair_at : T (fair (table_of kind) i j)
  unfolding table_of
  fair_at = at_pair (fair (table_of kind)) (fair_tables (eqb kind X4) (eqb kind X2)) i j a b

  abbrev t : List (List Move)
  t = table_of kind

  parts : T (cancels t i j) × T (doubles t i j) × T (ahead t i j) × T (behind t i j) × T (stays t i j)
  unfolding fair
  parts = each (cancels t i j) (doubles t i j) (ahead t i j) (behind t i j) (stays t i j) fair_at

  -- The entries there and back cancel, so chatter at an edge never climbs.
  pub there_and_back : worth (entry kind i j) +ℤ worth (entry kind j i) ≡ pos 0
  unfolding cancels there back entry
  there_and_back = zero_is (worth (entry kind i j) +ℤ worth (entry kind j i)) parts.0

  -- E stands exactly between the codes that differ in both lines.
  pub double_opposite : is_e (entry kind i j) ≡ opposite i j
  unfolding doubles there entry
  double_opposite = beq_is (is_e (entry kind i j)) (opposite i j) parts.1

  -- + stands only from a code to the next one forward.
  pub forward_next : entry kind i j ≡ Forward → j ≡ next_code i
  unfolding ahead there entry same mark
  forward_next e = eqb→eq j (next_code i) (implied (same (entry kind i j) Forward) (eqb j (next_code i)) parts.2 (rw e tt))

  -- - stands only from a code to the one before it.
  pub back_next : entry kind i j ≡ Back → i ≡ next_code j
  unfolding behind there entry same mark
  back_next e = eqb→eq i (next_code j) (implied (same (entry kind i j) Back) (eqb i (next_code j)) parts.3 (rw e tt))

  -- Equal codes are no step.
  pub still_same : i ≡ j → entry kind i j ≡ Still
  unfolding stays there entry
  still_same e = same_is (entry kind i j) Still (implied (eqb i j) (same (entry kind i j) Still) parts.4 (rw e (eqb_refl j)))

-- E stands in every mode where x4 has it.
pub double_as_x4 : (kind i j : ℕ) → i < 4 → j < 4 → is_e (entry kind i j) ≡ is_e (entry X4 i j)
double_as_x4 kind i j a b = double_opposite kind i j a b ∙ sym (double_opposite X4 i j a b)

-- A whole cycle forward counts the number of the mode.
pub cycle_forward : (kind : ℕ) → sampled_kind kind ≡ true →
    worth (entry kind 0 1) +ℤ worth (entry kind 1 3) +ℤ worth (entry kind 3 2) +ℤ worth (entry kind 2 0) ≡ pos kind
unfolding worth entry table_of x1 x2 x4
cycle_forward kind h = go (test (eqb kind X1)) (test (eqb kind X2)) (test (eqb kind X4))
  where
    go : Decided (eqb kind X1) → Decided (eqb kind X2) → Decided (eqb kind X4) →
        worth (entry kind 0 1) +ℤ worth (entry kind 1 3) +ℤ worth (entry kind 3 2) +ℤ worth (entry kind 2 0) ≡ pos kind
    go (yes e) q r = rw (eqb-true kind X1 e)
    go (no e) (yes f) r = rw (eqb-true kind X2 f)
    go (no e) (no f) (yes g) = rw (eqb-true kind X4 g)
    go (no e) (no f) (no g) = absurd (true≢false (sym h ∙ rw (e, f, g)))

-- ---- the three tables against each other, and E, by the levels of A and B that a code has: code % 2 and code / 2

-- x4's entry where A changes, and 0 where it does not.
edge_a : ℕ → ℕ → Move
edge_a i j = cond (eqb (i % 2) (j % 2)) Still (entry_in x4 i j)

-- x2's entry where B is 0 before and after and where x4 has E, and 0 elsewhere.
edge_low : ℕ → ℕ → Move
edge_low i j = cond (eqb (i / 2 + j / 2) 0 || is_e (entry_in x4 i j)) (entry_in x2 i j) Still

edges_hold : T (every 4 (λ i. every 4 (λ j. same (entry_in x2 i j) (edge_a i j))))
unfolding same mark is_e edge_a x2 x4
edges_hold = tt

lows_hold : T (every 4 (λ i. every 4 (λ j. same (entry_in x1 i j) (edge_low i j))))
unfolding same mark is_e edge_low x1 x2 x4
lows_hold = tt

doubles_hold : T (every 4 (λ i. every 4 (λ j. beq (opposite i j) (eqb (i + j) 3))))
unfolding opposite
doubles_hold = tt

module _ (i j : ℕ) (a : i < 4) (b : j < 4) where
  -- x2 is x4 at A's edges, and 0 where B alone changes.
  pub x2_edges : entry X2 i j ≡ cond (eqb (i % 2) (j % 2)) Still (entry X4 i j)
  unfolding edge_a entry table_of
  x2_edges = same_is (entry_in x2 i j) (edge_a i j) (at_pair (λ i j. same (entry_in x2 i j) (edge_a i j)) edges_hold i j a b)

  -- x1 is x2 where B is 0 and where x4 has E, and 0 elsewhere.
  pub x1_edges : entry X1 i j ≡ cond (eqb (i / 2 + j / 2) 0 || is_e (entry X4 i j)) (entry X2 i j) Still
  unfolding edge_low entry table_of
  x1_edges = same_is (entry_in x1 i j) (edge_low i j) (at_pair (λ i j. same (entry_in x1 i j) (edge_low i j)) lows_hold i j a b)

  -- E stands between 0 and 3 and between 1 and 2, and nowhere else, in every mode.
  pub double_where : (kind : ℕ) → is_e (entry kind i j) ≡ eqb (i + j) 3
  double_where kind =
      double_opposite kind i j a b
      ∙ beq_is (opposite i j) (eqb (i + j) 3) (at_pair (λ i j. beq (opposite i j) (eqb (i + j) 3)) doubles_hold i j a b)
