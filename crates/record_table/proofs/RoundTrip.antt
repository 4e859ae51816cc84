-- A record of a whole table that was written is read back, and a slice that was accepted is what is written again.
use Rattle.std.specs.Prelude.{Result, Ok, Err}
use mathlib.Core.Path.{◌≡◌, refl, sym, ap, ◌∙◌}
use mathlib.Core.Bool.{Bool, true, false, cond}
use mathlib.Core.List.{List, [], ◌∷◌, ◌++◌, append_assoc}
use Prim.Native.Nat.{ℕ, zero, suc, ◌+◌, ◌≤◌}
use native.Mathlib.Omega.{arith}
use borrow.Author.Tests.{eq-eqb, eqb-true, le-leb, leb-true}
use lib.Dec.{eqb, leb, lit<}
use lib.ListN.{length, drop, length-drop, drop_of_length-le}
use Rattle.integers.proofs.Balance.{Decided, yes, no, test}
use Rattle.refusal.specs.declared.Refusal.{Refusal}
use Rattle.refusal.specs.declared.Refusal.TheVariants.{Record}
use Rattle.axis.specs.Limit.{most_axes}
use Rattle.tagged.specs.Bytes.{AllBytes, number_at, bytes_of, starts}
use Rattle.tagged.specs.Field.{stands_at, field_bytes}
use Rattle.tagged.proofs.BytesLaws.{starts_is}
use Rattle.tagged.proofs.FieldLaws.{stands_is, field_back}
use Rattle.record_axis.specs.Limits.{within_limits}
use Rattle.record_axis.proofs.AxisLaws.{on_field_lem}
use Rattle.record.specs.Tags.{end_tag}
use Rattle.record_entry.specs.Entry.{entry_from, entry_bytes}
use Rattle.record_entry.specs.declared.entry.Entry.{Entry}
use Rattle.record_entry.proofs.EntryLaws.{entry_back, entry_within, entry_again}
use Rattle.record_table.specs.Opening.{table_opening}
use Rattle.record_table.specs.Tags.{count_tag}
use Rattle.record_table.specs.TableRecord.{on_entry, before, closes_at, entries_at, table_read_as}
use Rattle.record_table.specs.TableRecord.{entries_bytes, table_front, table_record_of, Ascending, Tellable}

-- The end of a record.
abbrev end : List ℕ
end = field_bytes end_tag 0 0

-- ---- what is written is read

closed_back : (s : List ℕ) (at : ℕ) → drop at s ≡ end → closes_at s at ≡ true
unfolding closes_at field_bytes bytes_of
closed_back s at e =
    let f = field_back s at end_tag 0 0 [] e (lit< tt) (lit< tt) in
    let long : length s ≡ at + 3 + 0 = omega (arith, length-drop at s, ap length e) in
    rw f.0 (eq-eqb (length s) (at + 3 + 0) long)

entries_back : (es : List Entry) (s : List ℕ) (at least : ℕ) → drop at s ≡ entries_bytes es ++ end → Ascending least es →
    entries_at (length es) s at least ≡ Ok es
unfolding entries_at entries_bytes
entries_back [] s at least d a = rw (closed_back s at d)
entries_back (e ∷ es) s at least d a =
    let f = entry_back s at e least (entries_bytes es ++ end) (d ∙ append_assoc (entry_bytes e) (entries_bytes es) end)
    (record { byte = omega (arith, a.1); limits = a.2 }) a.0 in
    rw (f.0, entries_back es s (at + length (entry_bytes e)) (suc e.axis) f.1 a.3)

-- What is written is read.
pub written_read : (es : List Entry) → Tellable es → table_read_as (table_record_of es) ≡ Ok es
unfolding table_read_as table_record_of table_front starts most_axes
written_read es t =
    let s = table_record_of es in
    let n = length es in
    let f = field_back s 5 count_tag 1 n (entries_bytes es ++ end) refl (lit< tt) (omega (arith, t.few)) in
    rw (f.0, le-leb n most_axes t.few) (entries_back es s 9 0 f.1 t.rising)

-- ---- what is read is written

closed_again : (s : List ℕ) (at : ℕ) → AllBytes s → closes_at s at ≡ true → drop at s ≡ end
unfolding closes_at field_bytes bytes_of
closed_again s at b h = go (test (stands_at s at end_tag 0)) (rw on_field_lem at h)
  where
    go : Decided (stands_at s at end_tag 0) → cond (stands_at s at end_tag 0) (eqb (length s) (at + 3 + 0)) false ≡ true → drop at s ≡ end
    go (no t) k = let j = rw t at k in let z : ◌≡◌ {A = ℕ} 0 1 = cc in absurd (omega arith)
    go (yes t) k =
        let long = eqb-true (length s) (at + 3 + 0) (rw t at k) in
        let nothing : drop (at + 3 + 0) s ≡ [] = drop_of_length-le s {i = at + 3 + 0} (omega arith) in
        stands_is s at end_tag 0 b t ∙ rw nothing

-- What entries that were read are: as many as were asked for, ascending, and those that would be written there.
record Again (n : ℕ) (s : List ℕ) (at least : ℕ) (es : List Entry) : Type 0 where
  many : length es ≡ n
  rising : Ascending least es
  stand : drop at s ≡ entries_bytes es ++ end

entries_again : (n : ℕ) (s : List ℕ) (at least : ℕ) (es : List Entry) → AllBytes s → entries_at n s at least
    ≡ Ok es → Again n s at least es
unfolding entries_at entries_bytes
entries_again zero s at least es b h = go (test (closes_at s at)) h
  where
    go : Decided (closes_at s at) → cond (closes_at s at) (Ok []) (Err Record) ≡ Ok es → Again zero s at least es
    go (no t) k = let j = rw t at k in let z : ◌≡◌ {A = ℕ} 0 1 = cc in absurd (omega arith)
    go (yes t) k =
        let j = rw t at k in
        let none : [] ≡ es = cc in
        rw (← none) (record { many = refl; rising = tt; stand = closed_again s at b t })
entries_again (suc n) s at least es b h = go (entry_from s at least) refl h (λ e next. entries_again n s next (suc e.axis))
  where
    rest : (e : Entry) (next : ℕ) → entry_from s at least ≡ Ok (e, next) → (x : Result (List Entry) Refusal) → entries_at n s next (suc e.axis) ≡ x →
        before e x ≡ Ok es →
        ((fs : List Entry) → AllBytes s → entries_at n s next (suc e.axis) ≡ Ok fs → Again n s next (suc e.axis) fs) →
        Again (suc n) s at least es
    rest e next q (Err r) p k more = let z : ◌≡◌ {A = ℕ} 0 1 = cc in absurd (omega arith)
    rest e next q (Ok fs) p k more =
        let same : e ∷ fs ≡ es = cc in
        let i = more fs b p in
        let a = entry_again s at e least next q b in
        rw (← same) (record {
          many = ap suc i.many;
          rising = (a.1, omega (arith, a.2.byte), a.2.limits, i.rising);
          stand = a.0 ∙ rw i.stand (sym (append_assoc (entry_bytes e) (entries_bytes fs) end));
        })

    go : (x : Result (Entry × ℕ) Refusal) → entry_from s at least ≡ x → on_entry x (λ e at. before e (entries_at n s at (suc e.axis))) ≡ Ok es →
        ((e : Entry) (next : ℕ) (fs : List Entry) → AllBytes s → entries_at n s next (suc e.axis) ≡ Ok fs →
        Again n s next (suc e.axis) fs) →
        Again (suc n) s at least es
    go (Err r) q k more = let z : ◌≡◌ {A = ℕ} 0 1 = cc in absurd (omega arith)
    go (Ok (e, next)) q k more = rest e next q (entries_at n s next (suc e.axis)) refl k (more e next)

-- A check that a record passed.
read_if : (t : Bool) {x y : Result (List Entry) Refusal} {es : List Entry} → cond t x y ≡ Ok es → ((z : List Entry) → y ≡ Ok z → ⊥) →
    (t ≡ true) × (x ≡ Ok es)
read_if true e n = (refl, e)
read_if false {es = es} e n = absurd (n es e)

unsaid_not : {r : Refusal} (z : List Entry) → Err r ≡ Ok z → ⊥
unsaid_not z h = let z : ◌≡◌ {A = ℕ} 0 1 = cc in omega arith

-- What an accepted slice passed: its opening, and as many entries as its number of axes says, behind that number.
record Passed (s : List ℕ) (es : List Entry) : Type 0 where
  opens : starts table_opening s ≡ true
  counted : stands_at s 5 count_tag 1 ≡ true
  few : number_at s 8 1 ≤ most_axes
  read : entries_at (number_at s 8 1) s 9 0 ≡ Ok es

passed : (s : List ℕ) (es : List Entry) → table_read_as s ≡ Ok es → Passed s es
unfolding table_read_as
passed s es h =
    let o = read_if (starts table_opening s) h unsaid_not in
    let f = read_if (stands_at s 5 count_tag 1) (rw on_field_lem at o.1) unsaid_not in
    let m = read_if (leb (number_at s 8 1) most_axes) f.1 unsaid_not in
    record { opens = o.0; counted = f.0; few = leb-true (number_at s 8 1) most_axes m.0; read = m.1 }

module _ (s : List ℕ) (es : List Entry) (b : AllBytes s) (h : table_read_as s ≡ Ok es) where
  again : Again (number_at s 8 1) s 9 0 es
  again = entries_again (number_at s 8 1) s 9 0 es b (passed s es h).read

  -- What is read is what is written.
  pub read_written : table_record_of es ≡ s
  unfolding table_record_of table_front
  read_written =
      let p = passed s es h in
      sym (starts_is table_opening s p.opens
      ∙ ap (λ (r : List ℕ). table_opening ++ r) (stands_is s 5 count_tag 1 b p.counted ∙ rw (again.stand, ← again.many)))

  -- It can be told.
  pub read_tellable : Tellable es
  read_tellable = record { few = rw again.many (passed s es h).few; rising = again.rising }

  -- Its entries stand from the tenth byte on.
  pub read_entries : entries_at (length es) s 9 0 ≡ Ok es
  read_entries = rw again.many (passed s es h).read

-- An accepted slice opens with the five bytes.
pub read_opens : (s : List ℕ) (es : List Entry) → table_read_as s ≡ Ok es → starts table_opening s ≡ true
read_opens s es h = (passed s es h).opens

-- ---- one entry more

module _ (n : ℕ) (s : List ℕ) (at least : ℕ) {es : List Entry} (h : entries_at (suc n) s at least ≡ Ok es) where
  -- Of entries that are accepted none is refused.
  pub entry_some : (r : Refusal) → entry_from s at least ≡ Err r → ⊥
  unfolding entries_at
  entry_some r q = unsaid_not es (rw q at h)

  -- The first of them, and those behind it.
  pub entries_first : (e : Entry) (next : ℕ) → entry_from s at least ≡ Ok (e, next) →
      (fs : List Entry) × (es ≡ e ∷ fs) × (entries_at n s next (suc e.axis) ≡ Ok fs)
  unfolding entries_at
  entries_first e next q = go (entries_at n s next (suc e.axis)) refl (rw q at h)
    where
      go : (x : Result (List Entry) Refusal) → entries_at n s next (suc e.axis) ≡ x → before e x ≡ Ok es →
          (fs : List Entry) × (es ≡ e ∷ fs) × (entries_at n s next (suc e.axis) ≡ Ok fs)
      go (Ok fs) p k = let same : e ∷ fs ≡ es = cc in (fs, sym same, p)
      go (Err r) p k = absurd (unsaid_not es k)

-- Of none there is none.
pub entries_none : (s : List ℕ) (at least : ℕ) {es : List Entry} → entries_at 0 s at least ≡ Ok es → es ≡ []
unfolding entries_at
entries_none s at least {es} h = go (test (closes_at s at)) h
  where
    go : Decided (closes_at s at) → cond (closes_at s at) (Ok []) (Err Record) ≡ Ok es → es ≡ []
    go (yes t) k = let j = rw t at k in cc
    go (no t) k = absurd (unsaid_not es (rw t at k))

-- ---- limits

-- What is read is within its limits, whatever the slice holds.
abbrev pub Limited : List Entry → Type 0
Limited [] = Unit {0}
Limited (e ∷ es) = (within_limits e.saved ≡ true) × Limited es

entries_within : (n : ℕ) (s : List ℕ) (at least : ℕ) (es : List Entry) → entries_at n s at least ≡ Ok es → Limited es
entries_within zero s at least es h = rw (entries_none s at least h) tt
entries_within (suc n) s at least es h = go (entry_from s at least) refl (λ e next. entries_within n s next (suc e.axis))
  where
    go : (x : Result (Entry × ℕ) Refusal) → entry_from s at least ≡ x →
        ((e : Entry) (next : ℕ) (fs : List Entry) → entries_at n s next (suc e.axis) ≡ Ok fs → Limited fs) → Limited es
    go (Err r) q more = absurd (entry_some n s at least h r q)
    go (Ok (e, next)) q more =
        let f = entries_first n s at least h e next q in
        rw f.1 (entry_within s at e least next q, more e next f.0 f.2)

pub read_within : (s : List ℕ) (es : List Entry) → table_read_as s ≡ Ok es → Limited es
read_within s es h = entries_within (number_at s 8 1) s 9 0 es (passed s es h).read
