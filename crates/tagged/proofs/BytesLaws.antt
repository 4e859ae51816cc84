-- The laws of numbers in bytes, each once over the number of bytes.
use mathlib.Core.Path.{◌≡◌, refl, sym, ap, ◌∙◌, subst}
use mathlib.Core.Bool.{Bool, true, false, ◌&&◌}
use mathlib.Core.List.{List, [], ◌∷◌, ◌++◌, append_assoc, append-nil}
use Prim.Native.Nat.{ℕ, zero, suc, ◌+◌, ◌*◌, ◌/◌, ◌%◌, ◌^◌, ◌≤◌, ◌<◌}
use native.Mathlib.Nat.{div-add-mod', add-zero, zero-add, add-suc, suc-add, mul-le-mul_right, mul_assoc}
use native.Mathlib.Nat.{pow-succ', pow-le-pow_right, lt_of_lt_of_le}
use native.Mathlib.Numerals.{add-one}
use native.Mathlib.Omega.{arith}
use borrow.Author.Tests.{eq-eqb, ne_eqb, eqb-true}
use lib.Arith.{digits_div, digits_mod}
use lib.Dec.{eqb}
use lib.ListN.{length, take, drop, get_or, length-append, length-drop, length-take}
use lib.Seq.{take-suc, get_or-drop}
use Rattle.std.specs.List.{starts_with}
use Rattle.integers.proofs.Balance.{Decided, yes, no, test}
use Rattle.tagged.specs.Bytes.{AllBytes, number_from, number_in, number_at, bytes_of, starts}

-- ---- parts of a list of bytes

pub bytes_drop : (n : ℕ) (s : List ℕ) → AllBytes s → AllBytes (drop n s)
bytes_drop n s b i = rw get_or-drop (b (n + i))

pub bytes_take : (n : ℕ) (s : List ℕ) → AllBytes s → AllBytes (take n s)
bytes_take zero s b i = omega arith
bytes_take (suc n) [] b i = omega arith
bytes_take (suc n) (x ∷ xs) b zero = b 0
bytes_take (suc n) (x ∷ xs) b (suc i) = bytes_take n xs (λ j. b (suc j)) i

-- Bytes and bytes behind them are bytes.
pub bytes_append : (xs ys : List ℕ) → AllBytes xs → AllBytes ys → AllBytes (xs ++ ys)
bytes_append [] ys b c i = c i
bytes_append (x ∷ xs) ys b c zero = b 0
bytes_append (x ∷ xs) ys b c (suc i) = bytes_append xs ys (λ j. b (suc j)) c i

-- What a number is put into are bytes.
pub bytes_all : (n v : ℕ) → AllBytes (bytes_of n v)
unfolding bytes_of
bytes_all zero v i = omega arith
bytes_all (suc n) v i = bytes_append (bytes_of n (v / 256)) (v % 256 ∷ []) (bytes_all n (v / 256)) last i
  where
    last : AllBytes (v % 256 ∷ [])
    last zero = omega arith
    last (suc i) = omega arith

-- ---- one byte more

number_snoc : (v : ℕ) (xs : List ℕ) (b : ℕ) → number_from v (xs ++ (b ∷ [])) ≡ number_from v xs * 256 + b
unfolding number_from
number_snoc v [] b = refl
number_snoc v (x ∷ xs) b = number_snoc (v * 256 + x) xs b

pub number_next : (s : List ℕ) (at i : ℕ) → at + i < length s → number_at s at (i + 1) ≡ number_at s at i * 256 + get_or s (at + i) 0
number_next s at i h =
    let l : i < length (drop at s) = simp length-drop (omega arith) in
    rw (add-one, take-suc (drop at s) i 0 l, get_or-drop at s i 0) (number_snoc 0 (take i (drop at s)) (get_or s (at + i) 0))

-- From the front of a list.
pub number_more : (xs : List ℕ) (i : ℕ) → i < length xs → number_at xs 0 (i + 1) ≡ number_at xs 0 i * 256 + get_or xs i 0
number_more xs i h =
    number_next xs 0 i (omega arith) ∙ ap (λ (k : ℕ). number_at xs 0 i * 256 + get_or xs k 0) (zero-add i)

-- ---- n bytes hold a number below 256 ^ n

from_below : (v : ℕ) (xs : List ℕ) → AllBytes xs → number_from v xs < suc v * 256 ^ length xs
unfolding number_from
from_below v [] b = omega arith
from_below v (x ∷ xs) b =
    let h = from_below (v * 256 + x) xs (λ i. b (suc i)) in
    let l : suc (v * 256 + x) ≤ suc v * 256 = omega (arith, b 0) in
    let k = mul-le-mul_right (256 ^ length xs) l in
    let e = mul_assoc (suc v) 256 (256 ^ length xs) ∙ ap (λ (m : ℕ). suc v * m) (sym (pow-succ' 256 (length xs))) in
    subst (λ (m : ℕ). number_from (v * 256 + x) xs < m) e (lt_of_lt_of_le h k)

pub number_below : (s : List ℕ) (at n : ℕ) → AllBytes s → number_at s at n < 256 ^ n
number_below s at n b =
    let xs = take n (drop at s) in
    let h = from_below 0 xs (bytes_take n (drop at s) (bytes_drop at s b)) in
    let l : length xs ≤ n = simp length-take (omega arith) in
    lt_of_lt_of_le (omega (arith, h)) (pow-le-pow_right {n = 256} (omega arith) {j = n} l)

-- At most seven bytes are a number below 256 ^ 7.
pub few_below : (xs : List ℕ) (i : ℕ) {v : ℕ} → AllBytes xs → v ≡ number_at xs 0 i → i ≤ 7 → v < 256 ^ 7
few_below xs i b e h = rw e (lt_of_lt_of_le (number_below xs 0 i b) (pow-le-pow_right {n = 256} (omega arith) {j = 7} h))

-- ---- beginnings

-- Beginning with bytes is what std's `starts_with` says.
pub starts_as : (xs s : List ℕ) → starts_with eqb s xs ≡ starts xs s
unfolding starts
starts_as [] s = refl
starts_as (x ∷ xs) [] = refl
starts_as (x ∷ xs) (y ∷ ys) = ap (λ (b : Bool). eqb x y && b) (starts_as xs ys)

-- A slice begins with bytes exactly where it has each of them at its place: with fewer it does not, nor with another byte at one.
no_and : (t : Bool) {b : Bool} → b ≡ false → (t && b) ≡ false
no_and true e = e
no_and false e = refl

pub starts_yes : (xs s : List ℕ) → length xs ≤ length s → ((k : ℕ) → k < length xs → get_or s k 0 ≡ get_or xs k 0) → starts xs s ≡ true
unfolding starts
starts_yes [] s l h = refl
starts_yes (x ∷ xs) [] l h = absurd (omega arith)
starts_yes (x ∷ xs) (y ∷ ys) l h =
    rw (eq-eqb x y (sym (h 0 (omega arith)))) (starts_yes xs ys (omega arith) (λ k p. h (suc k) (omega arith)))

pub starts_short : (xs s : List ℕ) → length s < length xs → starts xs s ≡ false
unfolding starts
starts_short [] s l = absurd (omega arith)
starts_short (x ∷ xs) [] l = refl
starts_short (x ∷ xs) (y ∷ ys) l = no_and (eqb x y) (starts_short xs ys (omega arith))

pub starts_no : (xs s : List ℕ) (i : ℕ) → i < length xs → i < length s → (get_or s i 0 ≡ get_or xs i 0 → ⊥) → starts xs s ≡ false
unfolding starts
starts_no [] s i l m h = absurd (omega arith)
starts_no (x ∷ xs) [] i l m h = refl
starts_no (x ∷ xs) (y ∷ ys) zero l m h = rw (ne_eqb x y (λ e. h (sym e)))
starts_no (x ∷ xs) (y ∷ ys) (suc i) l m h = no_and (eqb x y) (starts_no xs ys i (omega arith) (omega arith) h)

-- What begins with a list is that list and the rest.
pub starts_is : (xs s : List ℕ) → starts xs s ≡ true → s ≡ xs ++ drop (length xs) s
unfolding starts
starts_is [] s h = refl
starts_is (x ∷ xs) [] h = let z : ◌≡◌ {A = ℕ} 0 1 = cc in absurd (omega arith)
starts_is (x ∷ xs) (y ∷ ys) h = go (test (eqb x y)) (starts_is xs ys)
  where
    go : Decided (eqb x y) → (starts xs ys ≡ true → ys ≡ xs ++ drop (length xs) ys) → y ∷ ys ≡ x ∷ (xs ++ drop (length xs) ys)
    go (yes e) f = rw (← (eqb-true x y e)) (ap (λ (r : List ℕ). x ∷ r) (f (rw e at h)))
    go (no e) f = let k = rw e at h in let z : ◌≡◌ {A = ℕ} 0 1 = cc in absurd (omega arith)

-- ---- there and back

pub length_bytes_of : (n v : ℕ) → length (bytes_of n v) ≡ n
unfolding bytes_of
length_bytes_of zero v = refl
length_bytes_of (suc n) v = simp length-append (omega (arith, length_bytes_of n (v / 256)))

-- A number below 256 ^ n is read back from its n bytes.
pub number_back : (n v : ℕ) → v < 256 ^ n → number_in (bytes_of n v) ≡ v
unfolding bytes_of number_from
number_back zero v h = omega arith
number_back (suc n) v h =
    number_snoc 0 (bytes_of n (v / 256)) (v % 256)
    ∙ ap (λ (k : ℕ). k * 256 + v % 256) (number_back n (v / 256) (omega (arith, div-add-mod' v 256)))
    ∙ div-add-mod' v 256

bytes_from : (n v : ℕ) (xs : List ℕ) → AllBytes xs → bytes_of (n + length xs) (number_from v xs) ≡ bytes_of n v ++ xs
unfolding number_from bytes_of
bytes_from n v [] b = simp (add-zero, append-nil)
bytes_from n v (x ∷ xs) b =
    ap (λ (m : ℕ). bytes_of m (number_from (v * 256 + x) xs)) (add-suc n (length xs) ∙ sym (suc-add n (length xs)))
    ∙ bytes_from (suc n) (v * 256 + x) xs (λ i. b (suc i))
    ∙ rw (digits_div v (b 0), digits_mod v (b 0)) (append_assoc (bytes_of n v) (x ∷ []) xs)

-- Bytes that were read as a number are the bytes of that number.
pub bytes_back : (n : ℕ) (xs : List ℕ) → AllBytes xs → length xs ≡ n → bytes_of n (number_in xs) ≡ xs
unfolding bytes_of
bytes_back n xs b e = rw (← e) (ap (λ (m : ℕ). bytes_of m (number_in xs)) (sym (zero-add (length xs))) ∙ bytes_from 0 0 xs b)
