-- The laws of a port sample on a table: docs/RULES.md, "A port sample".
use Rattle.std.specs.Prelude.{Ok, Err}
use Prim.Native.Nat.{ℕ, zero, suc, ◌+◌, ◌*◌, ◌≤◌, ◌<◌}
use native.Mathlib.Nat.{add-zero, le_refl, eq-or-lt_of_le, le_of_suc-le-suc}
use native.Mathlib.Numerals.{add-one}
use native.Mathlib.Omega.{arith}
use mathlib.Core.Path.{◌≡◌, refl, sym, ap, ◌∙◌}
use mathlib.Core.Logic.{◌≢◌, ◌↔◌, ⊎_elim}
use mathlib.Core.Bool.{Bool, true, false, cond, true≢false}
use mathlib.Core.List.{List}
use lib.Dec.{eqb}
use lib.ListN.{length}
use borrow.Author.Tests.{eq-eqb, ne_eqb, eqb-true, eqb-false}
use Rattle.fields.specs.Field.{field_of, flag_of}
use Rattle.fields.proofs.BitLaws.{part}
use Rattle.refusal.specs.declared.Refusal.{Refusal}
use Rattle.refusal.specs.declared.Refusal.TheVariants.{Length}
use Rattle.axis_sound.specs.Sound.{status_of}
use Rattle.axis.specs.declared.row.Row.{Row}
use Rattle.axis_sound.specs.declared.Status.{Status}
use Rattle.axis_sound.specs.declared.Status.TheVariants.{Empty, Sampled, Counter, Broken}
use Rattle.row_sample.specs.Sample.{kept, step_row}
use Rattle.row_sample.specs.declared.SteppedRow.{SteppedRow}
use Rattle.row_sample.proofs.SampleLaws.{row_steps, empty_stays, counter_stays, broken_stays, words_after, fourth_unread}
use Rattle.table_rows.specs.Table.{axes_in, row_at, set_row, AllWords}
use Rattle.table_port.specs.Port.{nibble, step_at, sampled_to, mask_of, masks_to, noted, Below}
use Rattle.table_port.specs.Port.{sampled_table, sampled_answer, Samples, Bits, Stays}
use Rattle.table_port.specs.declared.Masks.{Masks}
use Rattle.table_rows.proofs.RowsLaws.{axes_fit, length_set_row, row_same, row_other, row_words, set_words}
use Rattle.table_port.proofs.MaskLaws.{mask_below, mask_same, mask_bit, mask_above}

-- ---- one row after another

module _ (t : List ℕ) (own : ℕ → ℕ) where
  pub length_sampled_to : (n : ℕ) → length (sampled_to n t own) ≡ length t
  unfolding sampled_to
  length_sampled_to zero = refl
  length_sampled_to (suc n) = length_set_row _ n _ ∙ length_sampled_to n

  -- Rows at n and above are not reached yet.
  row_later : (n j : ℕ) → n ≤ j → row_at (sampled_to n t own) j ≡ row_at t j
  unfolding sampled_to
  row_later zero j h = refl
  row_later (suc n) j h = row_other _ n j _ (omega arith) ∙ row_later n j (omega arith)

  -- Each row below n is that row of the table before, stepped by its own bits.
  row_stepped : (n j : ℕ) → n * 4 ≤ length t → j < n → row_at (sampled_to n t own) j ≡ (step_at t own j).row
  unfolding sampled_to
  row_stepped zero j l h = absurd (omega arith)
  row_stepped (suc n) j l h =
      ⊎_elim (λ e. rw e (row_same _ n _ (omega (arith, length_sampled_to n))))
      (λ b. row_other _ n j _ (omega arith) ∙ row_stepped n j (omega arith) b)
      (eq-or-lt_of_le (le_of_suc-le-suc h))

  pub masks_below : (n : ℕ) → Below (masks_to n t own) n
  unfolding masks_to
  masks_below n = record { doubles = mask_below n _; index = mask_below n _; broken = mask_below n _ }

  -- The row that is next is still that of the table before, and so are its bits.
  pub masks_next : (n : ℕ) → noted (masks_to n t own) n (step_at (sampled_to n t own) own n) ≡ masks_to (n + 1) t own
  unfolding masks_to noted mask_of
  masks_next n = rw (add-one, row_later n n (le_refl n))

  pub table_next_lem : (n : ℕ) → set_row (sampled_to n t own) n (step_at (sampled_to n t own) own n).row ≡ sampled_to (n + 1) t own
  unfolding sampled_to
  table_next_lem n = rw (add-one, row_later n n (le_refl n))

-- ---- samples that do the same to each row

module _ (t : List ℕ) (own other : ℕ → ℕ) (n : ℕ) (e : (k : ℕ) → k < n → step_at t own k ≡ step_at t other k) where
  rows_same : sampled_to n t own ≡ sampled_to n t other
  unfolding sampled_to
  rows_same = go n (le_refl n)
    where
      go : (m : ℕ) → m ≤ n → sampled_to m t own ≡ sampled_to m t other
      go zero h = refl
      go (suc m) h = rw (go m (omega arith), e m (omega arith))

  masks_same : masks_to n t own ≡ masks_to n t other
  unfolding masks_to
  masks_same i = record {
    doubles = mask_same n _ _ (λ k h. ap (λ (s : SteppedRow). s.double) (e k h)) i;
    index = mask_same n _ _ (λ k h. ap (λ (s : SteppedRow). s.index) (e k h)) i;
    broken = mask_same n _ _ (λ k h. ap (λ (s : SteppedRow). s.broken) (e k h)) i;
  }

-- The three lines of axis k are three bits of the port.
low_three : (p k : ℕ) → field_of 0 3 (nibble p k) ≡ field_of (k * 4) 3 p
unfolding nibble
low_three p k = rw add-zero at (part (k * 4) 1 3 0 p)

-- Ports that agree on them do the same to any row there.
lines_step : (r : Row) (p q k : ℕ) → field_of (k * 4) 3 p ≡ field_of (k * 4) 3 q → step_row r (nibble p k) ≡ step_row r (nibble q k)
lines_step r p q k e = fourth_unread r (nibble p k) (nibble q k) (low_three p k ∙ e ∙ sym (low_three q k))

-- ---- a whole sample

-- A slice that holds no axis is refused, and stays.
pub sample_none : (t : List ℕ) (port : ℕ) → axes_in (length t) ≡ 0 → Samples t port t (Err Length)
unfolding sampled_answer sampled_table sampled_to
sample_none t port e = record { answer = rw (eq-eqb _ _ e); table = rw e }

-- Else all n rows are sampled.
pub sample_all : (t : List ℕ) (port n : ℕ) → n ≡ axes_in (length t) → n ≢ 0 →
    Samples t port (sampled_to n t (nibble port)) (Ok (masks_to n t (nibble port)))
unfolding sampled_answer sampled_table
sample_all t port n e h = record { answer = rw (← e, ne_eqb n 0 h); table = rw e }

module _ (t : List ℕ) (port : ℕ) where
  -- A sample keeps the table's length.
  pub sample_length : length (sampled_table t port) ≡ length t
  unfolding sampled_table
  sample_length = length_sampled_to t (nibble port) (axes_in (length t))

  -- A sample is refused exactly where the slice holds no axis, and then by LENGTH.
  pub sample_refused : (e : Refusal) → (sampled_answer t port ≡ Err e) ↔ ((axes_in (length t) ≡ 0) × (e ≡ Length))
  unfolding sampled_answer
  sample_refused e = (go (eqb (axes_in (length t)) 0) refl, λ h. rw (eq-eqb _ _ h.0, h.1))
    where
      go : (b : Bool) → eqb (axes_in (length t)) 0 ≡ b →
          cond b (Err Length) (Ok (masks_to (axes_in (length t)) t (nibble port))) ≡ Err e →
          (axes_in (length t) ≡ 0) × (e ≡ Length)
      go true z q = (eqb-true _ _ z, cc)
      go false z q = absurd (let n : ◌≡◌ {A = ℕ} 0 1 = cc in omega arith)

  -- A refused sample keeps every word.
  pub refused_keeps : (e : Refusal) → sampled_answer t port ≡ Err e → sampled_table t port ≡ t
  refused_keeps e q = sym (sample_none t port ((sample_refused e).0 q).0).table

  -- The masks that a sample answers are those of its n rows.
  seen : (m : Masks) → sampled_answer t port ≡ Ok m → m ≡ masks_to (axes_in (length t)) t (nibble port)
  seen m q = go (eqb (axes_in (length t)) 0) refl
    where
      go : (b : Bool) → eqb (axes_in (length t)) 0 ≡ b → m ≡ masks_to (axes_in (length t)) t (nibble port)
      go true z =
          let w = sample_none t port (eqb-true _ _ z) in
          absurd (let n : ◌≡◌ {A = ℕ} 0 1 = cc w.answer in omega arith)
      go false z = let w = sample_all t port (axes_in (length t)) refl (eqb-false _ _ z) in cc w.answer

  -- No mask has a bit of an axis that there is not.
  pub bits_above : (k : ℕ) → axes_in (length t) ≤ k → (m : Masks) → sampled_answer t port ≡ Ok m → Bits m k false false false
  unfolding masks_to
  bits_above k h m q =
      let e = seen m q in
      let n = axes_in (length t) in
      record { doubles = rw e (mask_above n _ k h); index = rw e (mask_above n _ k h); broken = rw e (mask_above n _ k h) }

  module _ (k : ℕ) (h : k < axes_in (length t)) where
    -- Each row after a sample is that row before it, stepped by its own four bits.
    pub sample_row : row_at (sampled_table t port) k ≡ (step_row (row_at t k) (nibble port k)).row
    unfolding sampled_table
    sample_row = row_stepped t (nibble port) (axes_in (length t)) k (axes_fit (length t)) h

    -- Each row's bits of the answer are its own step's.
    pub sample_bits : (m : Masks) → sampled_answer t port ≡ Ok m →
        let s = step_row (row_at t k) (nibble port k) in
        Bits m k s.double s.index s.broken
    unfolding masks_to
    sample_bits m q =
        let e = seen m q in
        let n = axes_in (length t) in
        record { doubles = rw e (mask_bit n _ k h); index = rw e (mask_bit n _ k h); broken = rw e (mask_bit n _ k h) }

    stays : (b : Bool) → step_row (row_at t k) (nibble port k) ≡ kept (row_at t k) b → Stays t port k b
    stays b e = record { row = rw e at sample_row; bits = λ m q. rw e at (sample_bits m q) }

    -- An empty row keeps every word and sets no bit.
    pub empty_row_lem : status_of (row_at t k) ≡ Empty → Stays t port k false
    empty_row_lem s = stays false (empty_stays (row_at t k) (nibble port k) s)

    -- So does a counter row.
    pub counter_row : status_of (row_at t k) ≡ Counter → Stays t port k false
    counter_row s = stays false (counter_stays (row_at t k) (nibble port k) s)

    -- A broken row keeps every word and sets its own bit of the third mask; no other row is held up by it.
    pub broken_row : status_of (row_at t k) ≡ Broken → Stays t port k true
    broken_row s = stays true (broken_stays (row_at t k) (nibble port k) s)

    -- No other row sets that bit.
    pub broken_only : (m : Masks) → sampled_answer t port ≡ Ok m → flag_of k m.broken ≡ true → status_of (row_at t k) ≡ Broken
    broken_only m q f = go (status_of (row_at t k)) refl
      where
        no : {A : Type 0} → flag_of k m.broken ≡ false → A
        no e = absurd (true≢false (sym f ∙ e))

        go : (s : Status) → status_of (row_at t k) ≡ s → status_of (row_at t k) ≡ Broken
        go Broken e = e
        go Empty e = no ((empty_row_lem e).bits m q).broken
        go Counter e = no ((counter_row e).bits m q).broken
        go Sampled e = no ((sample_bits m q).broken ∙ ap (λ (s : SteppedRow). s.broken) (row_steps (row_at t k) (nibble port k) e))

  -- Words of 64 bits stay such words.
  pub sample_words : AllWords t → AllWords (sampled_table t port)
  unfolding sampled_table sampled_to
  sample_words h = go (axes_in (length t))
    where
      go : (n : ℕ) → AllWords (sampled_to n t (nibble port))
      go zero = h
      go (suc n) = set_words _ n _ (go n) (words_after (row_at t n) (nibble port n) (row_words t n h))

-- Axes stand apart: where two tables agree on row k and two ports on its three lines, row k and its bits are the same after.
pub sample_apart : (t u : List ℕ) (p q k : ℕ) → k < axes_in (length t) → k < axes_in (length u) →
    row_at t k ≡ row_at u k → field_of (k * 4) 3 p ≡ field_of (k * 4) 3 q →
    (row_at (sampled_table t p) k ≡ row_at (sampled_table u q) k) ×
    ((m o : Masks) → sampled_answer t p ≡ Ok m → sampled_answer u q ≡ Ok o →
    Bits m k (flag_of k o.doubles) (flag_of k o.index) (flag_of k o.broken))
sample_apart t u p q k h i r b =
    let e : step_at t (nibble p) k ≡ step_at u (nibble q) k = rw r (lines_step (row_at u k) p q k b) in (
      sample_row t p k h ∙ ap (λ (s : SteppedRow). s.row) e ∙ sym (sample_row u q k i),
      λ m o x y.
          let v = sample_bits t p k h m x in
          let w = sample_bits u q k i o y in
          record {
            doubles = v.doubles ∙ ap (λ (s : SteppedRow). s.double) e ∙ sym w.doubles;
            index = v.index ∙ ap (λ (s : SteppedRow). s.index) e ∙ sym w.index;
            broken = v.broken ∙ ap (λ (s : SteppedRow). s.broken) e ∙ sym w.broken;
          },
    )

-- The fourth bits, and the bits of axes that there are not, are not read: ports that agree on the others do the same.
pub unread : (t : List ℕ) (p q : ℕ) → ((k : ℕ) → k < axes_in (length t) → field_of (k * 4) 3 p ≡ field_of (k * 4) 3 q) →
    (sampled_table t p ≡ sampled_table t q) × (sampled_answer t p ≡ sampled_answer t q)
unfolding sampled_table sampled_answer
unread t p q b =
    let n = axes_in (length t) in
    let steps : (k : ℕ) → k < n → step_at t (nibble p) k ≡ step_at t (nibble q) k = λ k h. lines_step (row_at t k) p q k (b k h) in
    (rows_same t (nibble p) (nibble q) n steps, rw (masks_same t (nibble p) (nibble q) n steps))
