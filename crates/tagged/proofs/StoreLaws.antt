-- The laws of runs of stores, one after another.
use mathlib.Core.Path.{◌≡◌, refl, sym, ap, ◌∙◌}
use mathlib.Core.List.{List, [], ◌∷◌, ◌++◌, append_assoc}
use Prim.Native.Nat.{ℕ, suc, ◌+◌, ◌-◌, ◌/◌, ◌%◌, ◌≤◌}
use native.Mathlib.Nat.{add-zero, add-suc, suc-add}
use native.Mathlib.Omega.{arith}
use lib.ListN.{length, set, take, drop, length-append}
use lib.Seq.{sets, sets-eq, set_comm, drop-drop}
use borrow.Rule.Slice.PartMut.{put_mid}
use Rattle.tagged.specs.Bytes.{bytes_of}
use Rattle.tagged.specs.Store.{Puts}
use Rattle.tagged.specs.Field.{head_bytes, field_bytes}
use Rattle.tagged.proofs.BytesLaws.{length_bytes_of}

-- One run after another is one run.
pub sets_append : (l : List ℕ) (i : ℕ) (xs ys : List ℕ) → sets l i (xs ++ ys) ≡ sets (sets l i xs) (i + length xs) ys
sets_append l i [] ys = rw add-zero
sets_append l i (x ∷ xs) ys =
    sets_append (set l i x) (suc i) xs ys
    ∙ ap (λ (k : ℕ). sets (sets l i (x ∷ xs)) k ys) (suc-add i (length xs) ∙ sym (add-suc i (length xs)))

-- A run at the place where the run before it ends.
pub sets_then : (l : List ℕ) (i j : ℕ) (xs ys : List ℕ) → i + length xs ≡ j → sets (sets l i xs) j ys ≡ sets l i (xs ++ ys)
sets_then l i j xs ys e = ap (λ (k : ℕ). sets (sets l i xs) k ys) (sym e) ∙ sym (sets_append l i xs ys)

-- Bytes copied over a part of a buffer as long as they are.
pub puts_copy : (b bytes : List ℕ) (at : ℕ) {d : List ℕ} → at + length bytes ≤ length b → d ≡ bytes →
    Puts bytes b at (put_mid at (at + length bytes - at) b d) (at + length bytes)
puts_copy b bytes at {d} h e =
    let n : at + length bytes - at ≡ length bytes = omega arith in
    record {
      buffer =
          ap (λ (l : List ℕ). take at b ++ (l ++ drop (at + length bytes - at) (drop at b))) e
          ∙ ap (λ (l : List ℕ). take at b ++ (bytes ++ l)) (ap (λ (k : ℕ). drop k (drop at b)) n ∙ drop-drop (length bytes) at b)
          ∙ sym (append_assoc (take at b) bytes (drop (at + length bytes) b))
          ∙ sym (sets-eq bytes b at h);
      behind = refl;
    }

-- Bytes, and bytes behind them, are bytes in a row.
pub puts_then : {xs ys b m d : List ℕ} {at j r : ℕ} → Puts xs b at m j → Puts ys m j d r → Puts (xs ++ ys) b at d r
puts_then {xs} {ys} {b} {m} {d} {at} {j} {r} p q = record {
  buffer = q.buffer ∙ ap (λ (l : List ℕ). sets l j ys) p.buffer ∙ sets_then b at j xs ys (sym p.behind);
  behind = simp length-append (omega (arith, p.behind, q.behind));
}

-- A store past a run can come first.
pub sets_later : (l : List ℕ) (i : ℕ) (xs : List ℕ) (k y : ℕ) → i + length xs ≤ k → sets (set l k y) i xs ≡ set (sets l i xs) k y
sets_later l i [] k y h = refl
sets_later l i (x ∷ xs) k y h =
    ap (λ (m : List ℕ). sets m (suc i) xs) (set_comm l k i y x (λ e. omega arith)) ∙ sets_later (set l i x) (suc i) xs k y (omega arith)

-- A number's last byte first, then the others.
pub bytes_last : (l : List ℕ) (at k v : ℕ) → sets (set l (at + k) (v % 256)) at (bytes_of k (v / 256)) ≡ sets l at (bytes_of (suc k) v)
unfolding bytes_of
bytes_last l at k v =
    let e = length_bytes_of k (v / 256) in
    sets_later l at (bytes_of k (v / 256)) (at + k) (v % 256) (omega arith)
    ∙ ap (λ (m : ℕ). set (sets l at (bytes_of k (v / 256))) (at + m) (v % 256)) (sym e)
    ∙ sym (sets_append l at (bytes_of k (v / 256)) (v % 256 ∷ []))

-- A head, and a number of n bytes behind it, are a field.
pub puts_field : (b : List ℕ) (at tag n v : ℕ) {m d : List ℕ} → m ≡ sets b at (head_bytes tag n) → d ≡ sets m (at + 3) (bytes_of n v) →
    Puts (field_bytes tag n v) b at d (at + 3 + n)
unfolding field_bytes
puts_field b at tag n v {m} p q =
    let l = length_bytes_of n v in
    let h : Puts (head_bytes tag n) b at m (at + 3) = record { buffer = p; behind = omega (arith, length_bytes_of 2 n) } in
    let f = puts_then h (record { buffer = q; behind = ap (λ (k : ℕ). at + 3 + k) (sym l) }) in
    rw l f
