-- The laws of one field, read and written, at any place of a slice.
use Rattle.std.specs.Prelude.{Some, None}
use Rattle.std.proofs.lemmas.Option.{some_pair_parts}
use mathlib.Core.Path.{◌≡◌, refl, sym, ap, ◌∙◌, subst}
use mathlib.Core.Bool.{true, false, ◌&&◌, and-eq-true_iff}
use mathlib.Core.List.{List, ◌++◌}
use Prim.Native.Nat.{ℕ, ◌+◌, ◌^◌, ◌≤◌, ◌<◌}
use native.Mathlib.Nat.{add-zero}
use native.Mathlib.Numerals.{add-one}
use native.Mathlib.Omega.{arith}
use borrow.Author.Tests.{eqb-true, eq-eqb, le-leb, lt-leb, leb-true, leb-false}
use lib.Dec.{eqb, leb}
use lib.ListN.{length, take, drop, get_or, take-append-drop, length-append, length-drop}
use lib.Seq.{drop-cons, drop-drop, drop-append_seam, take-append_seam, length-take-le, get_or-drop}
use Rattle.integers.proofs.Balance.{Decided, yes, no, test}
use Rattle.tagged.specs.Bytes.{AllBytes, number_in, number_at, bytes_of}
use Rattle.tagged.specs.Field.{head_at, value_at, stands_at, field_at, head_bytes, field_holding, field_bytes}
use Rattle.tagged.proofs.BytesLaws.{bytes_drop, bytes_take, number_below, number_back, bytes_back, length_bytes_of}

-- ---- the head

module _ (s : List ℕ) (at : ℕ) where
  pub head_cut : length s < at + 3 → None ≡ head_at s at
  unfolding head_at
  head_cut h = rw (lt-leb (at + 3) (length s) h)

  pub head_whole : {n : ℕ} → at + 3 ≤ length s → n ≡ number_at s (at + 1) 2 → Some (get_or s at 0, n) ≡ head_at s at
  unfolding head_at
  head_whole h e = rw (le-leb (at + 3) (length s) h, e)

  -- A head that is cut has no room.
  pub cut_told : head_at s at ≡ None → length s < at + 3
  unfolding head_at
  cut_told h = go (test (leb (at + 3) (length s)))
    where
      go : Decided (leb (at + 3) (length s)) → length s < at + 3
      go (yes e) = let k = rw e at h in let z : ◌≡◌ {A = ℕ} 0 1 = cc in absurd (omega arith)
      go (no e) = leb-false (at + 3) (length s) e

  -- A head that was read stands there, with its tag and its length.
  pub head_told : {tag n : ℕ} → head_at s at ≡ Some (tag, n) → (at + 3 ≤ length s) × (get_or s at 0 ≡ tag) × (number_at s (at + 1) 2 ≡ n)
  unfolding head_at
  head_told {tag} {n} h = go (test (leb (at + 3) (length s)))
    where
      go : Decided (leb (at + 3) (length s)) → (at + 3 ≤ length s) × (get_or s at 0 ≡ tag) × (number_at s (at + 1) 2 ≡ n)
      go (yes e) = let k = some_pair_parts _ _ _ _ (rw e at h) in (leb-true (at + 3) (length s) e, k.0, k.1)
      go (no e) = let k = rw e at h in let z : ◌≡◌ {A = ℕ} 0 1 = cc in absurd (omega arith)

-- ---- a field in the code's order

module _ (s : List ℕ) (at tag n : ℕ) where
  pub cut : length s < at + 3 + n → None ≡ field_at s at tag n
  unfolding field_at
  cut h = rw (lt-leb (at + 3 + n) (length s) h)

  module _ {t m : ℕ} (h : head_at s at ≡ Some (t, m)) (l : at + 3 + n ≤ length s) where
    pub headless : (eqb t tag && eqb m n) ≡ false → None ≡ field_at s at tag n
    unfolding field_at
    headless e = let k = head_told s at h in rw (le-leb (at + 3 + n) (length s) l, k.1, k.2, e)

    pub whole : {v : ℕ} → (eqb t tag && eqb m n) ≡ true → v ≡ number_at s (at + 3) n → Some (v, at + 3 + n) ≡ field_at s at tag n
    unfolding field_at
    whole e q = let k = head_told s at h in rw (le-leb (at + 3 + n) (length s) l, k.1, k.2, e, q)

-- ---- what a field that was read says

module _ (s : List ℕ) (at tag n : ℕ) {v next : ℕ} where
  -- A field that was read stands there, holds its number, and the next begins behind it.
  pub field_told : field_at s at tag n ≡ Some (v, next) → (stands_at s at tag n ≡ true) × (number_at s (at + 3) n ≡ v) × (at + 3 + n ≡ next)
  unfolding field_at
  field_told h = go (test (stands_at s at tag n))
    where
      go : Decided (stands_at s at tag n) → (stands_at s at tag n ≡ true) × (number_at s (at + 3) n ≡ v) × (at + 3 + n ≡ next)
      go (yes e) = let k = some_pair_parts _ _ _ _ (rw e at h) in (e, k.0, k.1)
      go (no e) = let k = rw e at h in let z : ◌≡◌ {A = ℕ} 0 1 = cc in absurd (omega arith)

  -- The value of a field of n bytes is below 256 ^ n.
  pub field_below : AllBytes s → field_at s at tag n ≡ Some (v, next) → v < 256 ^ n
  field_below b h = subst (λ (m : ℕ). m < 256 ^ n) (field_told h).1 (number_below s (at + 3) n b)

-- ---- what was read is what was written

-- Bytes at a place, and what follows them.
pub behind : (s xs rest : List ℕ) (at : ℕ) → drop at s ≡ xs ++ rest → drop (at + length xs) s ≡ rest
behind s xs rest at e = sym (drop-drop (length xs) at s) ∙ ap (drop (length xs)) e ∙ drop-append_seam xs rest

-- The bytes of a number at a place, and what follows them.
number_is : (s : List ℕ) (at n : ℕ) → AllBytes s → at + n ≤ length s → drop at s ≡ bytes_of n (number_at s at n) ++ drop (at + n) s
number_is s at n b h =
    let sized : length (take n (drop at s)) ≡ n = length-take-le n (drop at s) (simp length-drop (omega arith)) in
    rw (bytes_back n (take n (drop at s)) (bytes_take n (drop at s) (bytes_drop at s b)) sized, ← drop-drop n at s)
    (sym (take-append-drop n (drop at s)))

module _ (s : List ℕ) (at tag n : ℕ) (b : AllBytes s) (h : stands_at s at tag n ≡ true) where
  long : at + 3 + n ≤ length s
  long = leb-true (at + 3 + n) (length s) ((and-eq-true_iff (leb (at + 3 + n) (length s)) _).0 h).0

  head : (eqb (get_or s at 0) tag ≡ true) × (eqb (number_at s (at + 1) 2) n ≡ true)
  head =
      (and-eq-true_iff (eqb (get_or s at 0) tag) (eqb (number_at s (at + 1) 2) n)).0
      ((and-eq-true_iff (leb (at + 3 + n) (length s)) _).0 h).1

  sized : length (value_at s at n) ≡ n
  sized = length-take-le n (drop (at + 3) s) (simp length-drop (omega (arith, long)))

  -- A whole field at a place, with a value of any length, is what would be written there.
  pub holds_is : drop at s ≡ field_holding tag (value_at s at n) ++ drop (at + 3 + n) s
  unfolding bytes_of
  holds_is =
      let e : at + 1 + 2 ≡ at + 3 = omega arith in
      let rest = sym (take-append-drop n (drop (at + 3) s)) ∙ ap (λ (r : List ℕ). value_at s at n ++ r) (drop-drop n (at + 3) s) in
      let first = eqb-true (get_or s at 0) tag head.0 in
      let second = eqb-true (number_at s (at + 1) 2) n head.1 in
      drop-cons s at 0 (omega (arith, long))
      ∙ rw (← add-one at, number_is s (at + 1) 2 b (omega (arith, long)), first, second, sized)
      (ap (λ (r : List ℕ). head_bytes tag n ++ r) (ap (λ (k : ℕ). drop k s) e ∙ rest))

  -- A number field at a place is what would be written there.
  pub stands_is : drop at s ≡ field_bytes tag n (number_at s (at + 3) n) ++ drop (at + 3 + n) s
  unfolding field_bytes
  stands_is = rw (bytes_back n (value_at s at n) (bytes_take n (drop (at + 3) s) (bytes_drop (at + 3) s b)) sized) holds_is

-- ---- what was written is read

module _ (s : List ℕ) (at tag : ℕ) (value rest : List ℕ) (e : drop at s ≡ field_holding tag value ++ rest) (l : length value < 256 ^ 2) where
  room : at + 3 + length value ≤ length s
  unfolding bytes_of
  room = omega (arith, length-drop at s, ap length e, length-append value rest)

  -- A field that was written at a place stands there, whatever the length of its value.
  pub holds_back : (stands_at s at tag (length value) ≡ true) × (value_at s at (length value) ≡ value)
  unfolding bytes_of
  holds_back =
      let first : get_or s at 0 ≡ tag = rw add-zero at (sym (get_or-drop at s 0 0)) ∙ ap (λ (r : List ℕ). get_or r 0 0) e in
      let sized : number_at s (at + 1) 2 ≡ length value =
      ap (λ (r : List ℕ). number_in (take 2 r)) (sym (drop-drop 1 at s) ∙ ap (drop 1) e) ∙ number_back 2 (length value) l in
      let held = ap (take (length value)) (behind s (head_bytes tag (length value)) (value ++ rest) at e) in (
        rw (le-leb (at + 3 + length value) (length s) room, first, sized, eq-eqb tag tag refl, eq-eqb (length value) (length value) refl),
        held ∙ take-append_seam value rest,
      )

-- A number field that was written at a place is read there, and the next begins behind it.
pub field_back : (s : List ℕ) (at tag n v : ℕ) (rest : List ℕ) → drop at s ≡ field_bytes tag n v ++ rest → n < 256 ^ 2 → v < 256 ^ n →
    (field_at s at tag n ≡ Some (v, at + 3 + n)) × (drop (at + 3 + n) s ≡ rest)
unfolding field_at field_bytes
field_back s at tag n v rest e l h =
    let k = length_bytes_of n v in
    let b = rw k at (holds_back s at tag (bytes_of n v) rest e (rw k l)) in
    let j = length_bytes_of 2 (length (bytes_of n v)) in
    let long : at + length (field_bytes tag n v) ≡ at + 3 + n = simp length-append (omega arith) in
    (rw (b.0, b.1, number_back n v h), ap (λ (i : ℕ). drop i s) (sym long) ∙ behind s (field_bytes tag n v) rest at e)
