-- The laws of a table of rows: docs/RULES.md, "One row, four words".
use Prim.Native.Nat.{ℕ, zero, suc, ◌+◌, ◌*◌, ◌/◌, ◌%◌, ◌^◌, ◌≤◌, ◌<◌}
use native.Mathlib.Nat.{add-zero}
use native.Mathlib.Omega.{arith}
use mathlib.Core.Path.{◌≡◌, refl, sym, ap, ◌∙◌}
use mathlib.Core.Logic.{◌≢◌, ◌↔◌}
use mathlib.Core.Bool.{Bool, true, false, cond, ◌&&◌}
use mathlib.Core.List.{List}
use lib.Dec.{eqb, leb, ltb}
use lib.ListN.{length, get_or, set, length-set}
use lib.Seq.{get_or-set_same, get_or-set_other, lt-length-set, set_out, ext_get_or}
use borrow.Author.Tests.{eq-eqb, eqb-true, eqb-false, le-leb, leb-true, ltb-true, ltb-false}
use Rattle.axis.specs.Limit.{most_axes}
use Rattle.axis.specs.Row.{Words}
use Rattle.axis.specs.declared.row.Row.{Row}
use Rattle.table_rows.specs.Table.{axes_in, row_at, set_row, AllWords}

-- ---- how many axes

-- A length that passes the test holds a fourth of it, and any other none.
pub axes_held : (len : ℕ) → (eqb (len % 4) 0 && leb (len / 4) most_axes) ≡ true → len / 4 ≡ axes_in len
unfolding axes_in
axes_held len e = rw e

pub axes_none : (len : ℕ) → (eqb (len % 4) 0 && leb (len / 4) most_axes) ≡ false → 0 ≡ axes_in len
unfolding axes_in
axes_none len e = rw e

-- Four words for each axis lie in the slice.
pub axes_fit : (len : ℕ) → axes_in len * 4 ≤ len
unfolding axes_in
axes_fit len = go (eqb (len % 4) 0 && leb (len / 4) most_axes)
  where
    go : (b : Bool) → cond b (len / 4) 0 * 4 ≤ len
    go true = omega arith
    go false = omega arith

-- No slice holds more than the limit.
pub axes_most : (len : ℕ) → axes_in len ≤ most_axes
unfolding axes_in
axes_most len = go (eqb (len % 4) 0) (leb (len / 4) most_axes) refl
  where
    go : (a b : Bool) → leb (len / 4) most_axes ≡ b → cond (a && b) (len / 4) 0 ≤ most_axes
    go true true e = leb-true _ _ e
    go true false e = omega arith
    go false b e = omega arith

-- 4n words hold n.
pub axes_of : (n : ℕ) → n ≤ most_axes → axes_in (n * 4) ≡ n
unfolding axes_in
axes_of n h =
    let a : n * 4 % 4 ≡ 0 = omega arith in
    let b : n * 4 / 4 ≡ n = omega arith in
    let l : n * 4 / 4 ≤ most_axes = omega arith in
    rw (eq-eqb _ _ a, le-leb _ _ l) b

-- A slice that holds n is 4n words.
pub axes_only : (len : ℕ) → axes_in len ≢ 0 → len ≡ axes_in len * 4
unfolding axes_in
axes_only len = go (eqb (len % 4) 0) (leb (len / 4) most_axes) refl
  where
    go : (a b : Bool) → eqb (len % 4) 0 ≡ a → cond (a && b) (len / 4) 0 ≢ 0 → len ≡ cond (a && b) (len / 4) 0 * 4
    go true true e h = let z : len % 4 ≡ 0 = eqb-true _ _ e in omega arith
    go true false e h = absurd (h refl)
    go false b e h = absurd (h refl)

-- A slice holds no axis exactly where it is not 4n words, n from 1 to the limit.
pub length_wrong : (len : ℕ) → (axes_in len ≡ 0) ↔ ((n : ℕ) → 1 ≤ n → n ≤ most_axes → len ≢ n * 4)
length_wrong len = (
  (λ z n some most e. let q : axes_in (n * 4) ≡ 0 = rw e at z in omega (arith, axes_of n most)),
  (λ none. go none (eqb (axes_in len) 0) refl),
)
  where
    go : ((n : ℕ) → 1 ≤ n → n ≤ most_axes → len ≢ n * 4) → (b : Bool) → eqb (axes_in len) 0 ≡ b → axes_in len ≡ 0
    go none true e = eqb-true _ _ e
    go none false e = absurd (let h : axes_in len ≢ 0 = eqb-false _ _ e in none (axes_in len) (omega arith) (axes_most len) (axes_only len h))

-- ---- a row, and a row replaced

-- A row replaced leaves the length.
pub length_set_row : (t : List ℕ) (k : ℕ) (r : Row) → length (set_row t k r) ≡ length t
unfolding set_row
length_set_row t k r = simp length-set

-- A row replaced leaves every word outside it.
pub word_other : (t : List ℕ) (k i : ℕ) (r : Row) → i / 4 ≢ k → get_or (set_row t k r) i 0 ≡ get_or t i 0
unfolding set_row
word_other t k i r h =
    let n0 : i ≢ k * 4 = omega arith in
    let n1 : i ≢ k * 4 + 1 = omega arith in
    let n2 : i ≢ k * 4 + 2 = omega arith in
    let n3 : i ≢ k * 4 + 3 = omega arith in
    simp get_or-set_other

-- Every other row stays.
pub row_other : (t : List ℕ) (k j : ℕ) (r : Row) → j ≢ k → row_at (set_row t k r) j ≡ row_at t j
unfolding row_at
row_other t k j r h i = record {
  w0 = word_other t k (j * 4) r (omega arith) i;
  w1 = word_other t k (j * 4 + 1) r (omega arith) i;
  w2 = word_other t k (j * 4 + 2) r (omega arith) i;
  w3 = word_other t k (j * 4 + 3) r (omega arith) i;
}

-- The row replaced is the row given.
pub row_same : (t : List ℕ) (k : ℕ) (r : Row) → k * 4 + 4 ≤ length t → row_at (set_row t k r) k ≡ r
unfolding row_at set_row
row_same t k r h =
    let n01 : k * 4 ≢ k * 4 + 1 = omega arith in
    let n02 : k * 4 ≢ k * 4 + 2 = omega arith in
    let n03 : k * 4 ≢ k * 4 + 3 = omega arith in
    let n12 : k * 4 + 1 ≢ k * 4 + 2 = omega arith in
    let n13 : k * 4 + 1 ≢ k * 4 + 3 = omega arith in
    let n23 : k * 4 + 2 ≢ k * 4 + 3 = omega arith in
    let b0 : k * 4 < length t = omega arith in
    let b1 : k * 4 + 1 < length t = omega arith in
    let b2 : k * 4 + 2 < length t = omega arith in
    let b3 : k * 4 + 3 < length t = omega arith in
    simp (get_or-set_other, get_or-set_same, lt-length-set)

-- ---- a table is its rows

-- Tables with one row k have the same four words there.
same_word : (t u : List ℕ) (k : ℕ) → row_at t k ≡ row_at u k → (x : ℕ) → x < 4 → get_or t (k * 4 + x) 0 ≡ get_or u (k * 4 + x) 0
unfolding row_at
same_word t u k e zero l = rw add-zero (ap (λ (r : Row). r.w0) e)
same_word t u k e (suc zero) l = ap (λ (r : Row). r.w1) e
same_word t u k e (suc (suc zero)) l = ap (λ (r : Row). r.w2) e
same_word t u k e (suc (suc (suc zero))) l = ap (λ (r : Row). r.w3) e
same_word t u k e (suc (suc (suc (suc x)))) l = absurd (omega arith)

-- Two tables of n rows that agree row by row are one table.
pub table_ext : (t u : List ℕ) (n : ℕ) → length t ≡ n * 4 → length u ≡ n * 4 → ((k : ℕ) → k < n → row_at t k ≡ row_at u k) → t ≡ u
table_ext t u n a b f = ext_get_or 0 t u (a ∙ sym b) word
  where
    word : (i : ℕ) → i < length t → get_or t i 0 ≡ get_or u i 0
    word i h =
        let q : i / 4 * 4 + i % 4 ≡ i = omega arith in
        rw q at (same_word t u (i / 4) (f (i / 4) (omega arith)) (i % 4) (omega arith))

-- ---- words of 64 bits

-- A store of a word of 64 bits leaves such words.
store_words : (t : List ℕ) (j v : ℕ) → AllWords t → v < 2 ^ 64 → AllWords (set t j v)
store_words t j v h l i = go (eqb i j) refl (ltb j (length t)) refl
  where
    go : (e : Bool) → eqb i j ≡ e → (o : Bool) → ltb j (length t) ≡ o → get_or (set t j v) i 0 < 2 ^ 64
    go false e o q = let n : i ≢ j = eqb-false _ _ e in rw get_or-set_other (h i)
    go true e false q = let n : length t ≤ j = ltb-false _ _ q in rw set_out (h i)
    go true e true q =
        let n : j < length t = ltb-true _ _ q in
        let x : i ≡ j = eqb-true _ _ e in
        rw (x, get_or-set_same) l

-- The rows of a table of 64-bit words are four such words each.
pub row_words : (t : List ℕ) (k : ℕ) → AllWords t → Words (row_at t k)
unfolding row_at
row_words t k h = record { w0 = h (k * 4); w1 = h (k * 4 + 1); w2 = h (k * 4 + 2); w3 = h (k * 4 + 3) }

-- A row of four such words leaves a table of such words.
pub set_words : (t : List ℕ) (k : ℕ) (r : Row) → AllWords t → Words r → AllWords (set_row t k r)
unfolding set_row
set_words t k r h w =
    let t0 = set t (k * 4) r.w0 in
    let t1 = set t0 (k * 4 + 1) r.w1 in
    let t2 = set t1 (k * 4 + 2) r.w2 in
    store_words t2 (k * 4 + 3) r.w3
    (store_words t1 (k * 4 + 2) r.w2
    (store_words t0 (k * 4 + 1) r.w1
    (store_words t (k * 4) r.w0 h w.w0) w.w1) w.w2) w.w3
