-- The laws of one entry at any place: its axis's fields are those of layout 1 within their limits, what is written there is read there, and
-- what is read there is what would be written.
use Rattle.std.specs.Prelude.{Result, Ok, Err}
use mathlib.Core.Path.{◌≡◌, refl, sym, ◌∙◌}
use mathlib.Core.Bool.{Bool, true, false, cond, true≢false, and-false}
use mathlib.Core.List.{List, ◌++◌, append_assoc}
use Prim.Native.Nat.{ℕ, ◌+◌, ◌^◌, ◌≤◌, ◌<◌}
use native.Mathlib.Omega.{arith}
use borrow.Author.Tests.{lt-ltb, le-leb, leb-true}
use lib.Dec.{leb, lit<}
use lib.ListN.{length, drop, length-append}
use mir.Syntax.{w64}
use mir.Val.{to_z}
use Rattle.integers.proofs.Balance.{Decided, yes, no, test}
use Rattle.refusal.specs.declared.Refusal.{Refusal}
use Rattle.refusal.specs.declared.Refusal.TheVariants.{Value, Record}
use Rattle.position.specs.Position.{in_range}
use Rattle.axis.specs.Kind.{counter_kind}
use Rattle.axis.specs.Config.{good_config}
use Rattle.axis.specs.declared.config.Config.{Config}
use Rattle.tagged.specs.Bytes.{AllBytes, number_at, bytes_of}
use Rattle.tagged.specs.Field.{stands_at, field_bytes}
use Rattle.tagged.proofs.BytesLaws.{number_below}
use Rattle.tagged.proofs.AnswerLaws.{ok_two, ok_three}
use Rattle.tagged.proofs.FieldLaws.{behind, field_back, stands_is}
use Rattle.record_axis.specs.declared.saved.Saved.{Saved}
use Rattle.record_axis.specs.Tags.{kind_tag, position_tag, depth_tag, width_tag, turn_tag}
use Rattle.record_axis.specs.AxisFields.{known_kind, counter_as, sampled_as, counter_at, sampled_at, axis_at, axis_bytes, axis_length}
use Rattle.record_axis.specs.Limits.{within_limits, saying}
use Rattle.record_axis.proofs.LimitsLaws.{SoundConfig, sampled, counter, good_config_lem, within_parts}
use Rattle.record_axis.proofs.AxisLaws.{on_field_lem, axis_long, axis_back, said_back, said_if, axis_again}
use Rattle.record_entry.specs.declared.entry.Entry.{Entry}
use Rattle.record_entry.specs.Tags.{axis_tag}
use Rattle.record_entry.specs.Entry.{counter_from, sampled_from, saved_at, numbered, entry_from, entry_bytes}

-- ---- the limits, value by value

-- A depth is within its limits whatever counts per turn of four bytes go with it.
pub depth_good : (kind depth turn : ℕ) → turn < 2 ^ 32 → good_config kind depth 0 turn ≡ good_config kind depth 0 0
unfolding good_config
depth_good kind depth turn h = rw (lt-ltb turn (2 ^ 32) h, and-false (counter_kind kind))

-- And it is so by itself where it is with some.
depth_alone : (kind depth turn : ℕ) → counter_kind kind ≡ false → good_config kind depth 0 turn ≡ true → good_config kind depth 0 0 ≡ true
depth_alone kind depth turn k h = go (good_config_lem (sampled_as kind depth turn) h)
  where
    go : SoundConfig (sampled_as kind depth turn) → good_config kind depth 0 0 ≡ true
    go (sampled sk hd v ht) = sym (depth_good kind depth turn ht) ∙ h
    go (counter ck hw d t) = absurd (true≢false (sym ck ∙ k))

-- A configuration and a position that are each within their limits are both.
within_both : (x : Saved) → good_config x.config.kind x.config.depth x.config.width x.config.turn ≡ true →
    in_range x.position ≡ true → within_limits x ≡ true
unfolding within_limits
within_both x c p = rw (c, p)

-- ---- the fields of layout 1, within their limits

-- A check that an axis's fields passed.
passed_if : (t : Bool) (r : Refusal) {y : Result (Saved × ℕ) Refusal} {x : Saved} {next : ℕ} → cond t y (Err r) ≡ Ok (x, next) →
    (t ≡ true) × (y ≡ Ok (x, next))
passed_if true r e = (refl, e)
passed_if false r e = let z : ◌≡◌ {A = ℕ} 0 1 = cc in absurd (omega arith)

module _ (s : List ℕ) (at kind bits : ℕ) where
  counter_said : {c : Config} {found next : ℕ} → counter_at s at kind bits ≡ Ok (c, found, next) → within_limits (saying c found) ≡ true →
      (counter_from s at kind (to_z w64 bits) ≡ Ok (saying c found, next)) × (bits ≡ found)
  unfolding counter_at counter_from
  counter_said {c} {found} {next} h w =
      let u = said_if (stands_at s at width_tag 1) Record (rw on_field_lem at h) in
      let v = ok_three u.1 in
      let e : counter_as kind (number_at s (at + 3) 1) ≡ c = v.0 in
      let n : at + 3 + 1 ≡ next = v.2 in
      let q : bits ≡ found = v.1 in
      let good = rw (← e) at (within_parts (saying c found) w).0 in
      (rw (← e, ← n, ← q, on_field_lem, u.0, good), q)

  sampled_said : counter_kind kind ≡ false → {c : Config} {found next : ℕ} → sampled_at s at kind bits ≡ Ok (c, found, next) →
      within_limits (saying c found) ≡ true → (sampled_from s at kind (to_z w64 bits) ≡ Ok (saying c found, next)) × (bits ≡ found)
  unfolding sampled_at sampled_from
  sampled_said k {c} {found} {next} h w =
      let depth = number_at s (at + 3) 1 in
      let turn = number_at s (at + 3 + 1 + 3) 4 in
      let u = said_if (stands_at s at depth_tag 1) Record (rw on_field_lem at h) in
      let y = said_if (stands_at s (at + 3 + 1) turn_tag 4) Record (rw on_field_lem at u.1) in
      let v = ok_three y.1 in
      let e : sampled_as kind depth turn ≡ c = v.0 in
      let n : at + 3 + 1 + 3 + 4 ≡ next = v.2 in
      let q : bits ≡ found = v.1 in
      let good = rw (← e) at (within_parts (saying c found) w).0 in
      (rw (← e, ← n, ← q, on_field_lem, u.0, depth_alone kind depth turn k good, on_field_lem, y.0, good), q)

  counter_spelt : {x : Saved} {next : ℕ} → counter_from s at kind (to_z w64 bits) ≡ Ok (x, next) → in_range (to_z w64 bits) ≡ true →
      (counter_at s at kind bits ≡ Ok (x.config, bits, next)) × (x ≡ saying x.config bits) × (within_limits x ≡ true)
  unfolding counter_at counter_from
  counter_spelt {x} {next} h r =
      let width = number_at s (at + 3) 1 in
      let u = passed_if (stands_at s at width_tag 1) Record (rw on_field_lem at h) in
      let g = passed_if (good_config kind 0 width 0) Value u.1 in
      let v = ok_two g.1 in
      let e : saying (counter_as kind width) bits ≡ x = v.0 in
      let n : at + 3 + 1 ≡ next = v.1 in
      (rw (← e, ← n, on_field_lem, u.0), rw (← e), rw (← e) (within_both (saying (counter_as kind width) bits) g.0 r))

  sampled_spelt : {x : Saved} {next : ℕ} → sampled_from s at kind (to_z w64 bits) ≡ Ok (x, next) → in_range (to_z w64 bits) ≡ true →
      (sampled_at s at kind bits ≡ Ok (x.config, bits, next)) × (x ≡ saying x.config bits) × (within_limits x ≡ true)
  unfolding sampled_at sampled_from
  sampled_spelt {x} {next} h r =
      let depth = number_at s (at + 3) 1 in
      let turn = number_at s (at + 3 + 1 + 3) 4 in
      let u = passed_if (stands_at s at depth_tag 1) Record (rw on_field_lem at h) in
      let g = passed_if (good_config kind depth 0 0) Value u.1 in
      let y = passed_if (stands_at s (at + 3 + 1) turn_tag 4) Record (rw on_field_lem at g.1) in
      let f = passed_if (good_config kind depth 0 turn) Value y.1 in
      let v = ok_two f.1 in
      let e : saying (sampled_as kind depth turn) bits ≡ x = v.0 in
      let n : at + 3 + 1 + 3 + 4 ≡ next = v.1 in (
        rw (← e, ← n, on_field_lem, u.0, on_field_lem, y.0),
        rw (← e),
        rw (← e) (within_both (saying (sampled_as kind depth turn) bits) f.0 r),
      )

module _ (s : List ℕ) (at : ℕ) where
  abbrev kind : ℕ
  kind = number_at s (at + 3) 1

  abbrev place : ℕ
  place = at + 3 + 1 + 3 + 8

  abbrev bits : ℕ
  bits = number_at s (at + 3 + 1 + 3) 8

  -- The kind and the position stand there.
  record Front : Type 0 where
    kinded : stands_at s at kind_tag 1 ≡ true
    known : known_kind kind ≡ true
    placed : stands_at s (at + 3 + 1) position_tag 8 ≡ true

  -- Where they do, what is left are the fields of a counter or of a sampled axis.
  left_spelt : Front → axis_at s at ≡ cond (counter_kind kind) (counter_at s place kind bits) (sampled_at s place kind bits)
  unfolding axis_at
  left_spelt f = rw (on_field_lem, f.kinded, f.known, on_field_lem, f.placed)

  left_said : Front → in_range (to_z w64 bits) ≡ true →
      saved_at s at ≡ cond (counter_kind kind) (counter_from s place kind (to_z w64 bits)) (sampled_from s place kind (to_z w64 bits))
  unfolding saved_at
  left_said f r = rw (on_field_lem, f.kinded, f.known, on_field_lem, f.placed, r)

  -- What layout 1 reads at a place is said here where it is within its limits.
  pub spelt_said : {c : Config} {found next : ℕ} → axis_at s at ≡ Ok (c, found, next) →
      within_limits (saying c found) ≡ true → saved_at s at ≡ Ok (saying c found, next)
  unfolding axis_at
  spelt_said {c} {found} {next} h w =
      let f = said_if (stands_at s at kind_tag 1) Record (rw on_field_lem at h) in
      let g = said_if (known_kind kind) Value f.1 in
      let p = said_if (stands_at s (at + 3 + 1) position_tag 8) Record (rw on_field_lem at g.1) in
      go (record { kinded = f.0; known = g.0; placed = p.0 }) (test (counter_kind kind)) p.1
    where
      range : bits ≡ found → in_range (to_z w64 bits) ≡ true
      range q = rw q (within_parts (saying c found) w).1

      go : Front → Decided (counter_kind kind) →
          cond (counter_kind kind) (counter_at s place kind bits) (sampled_at s place kind bits) ≡ Ok (c, found, next) →
          saved_at s at ≡ Ok (saying c found, next)
      go front (yes k) e =
          let d = counter_said s place kind bits (rw k at e) w in
          left_said front (range d.1) ∙ rw k d.0
      go front (no k) e =
          let d = sampled_said s place kind bits k (rw k at e) w in
          left_said front (range d.1) ∙ rw k d.0

  -- What is said here layout 1 reads there, and it is within its limits.
  pub said_spelt : {x : Saved} {next : ℕ} → saved_at s at ≡ Ok (x, next) →
      (axis_at s at ≡ Ok (x.config, bits, next)) × (x ≡ saying x.config bits) × (within_limits x ≡ true)
  unfolding saved_at
  said_spelt {x} {next} h =
      let f = passed_if (stands_at s at kind_tag 1) Record (rw on_field_lem at h) in
      let g = passed_if (known_kind kind) Value f.1 in
      let p = passed_if (stands_at s (at + 3 + 1) position_tag 8) Record (rw on_field_lem at g.1) in
      let r = passed_if (in_range (to_z w64 bits)) Value p.1 in
      go (record { kinded = f.0; known = g.0; placed = p.0 }) r.0 (test (counter_kind kind)) r.1
    where
      go : Front → in_range (to_z w64 bits) ≡ true → Decided (counter_kind kind) →
          cond (counter_kind kind) (counter_from s place kind (to_z w64 bits)) (sampled_from s place kind (to_z w64 bits)) ≡ Ok (x, next) →
          (axis_at s at ≡ Ok (x.config, bits, next)) × (x ≡ saying x.config bits) × (within_limits x ≡ true)
      go front r (yes k) e =
          let d = counter_spelt s place kind bits (rw k at e) r in
          (left_spelt front ∙ rw k d.0, d.1, d.2)
      go front r (no k) e =
          let d = sampled_spelt s place kind bits (rw k at e) r in
          (left_spelt front ∙ rw k d.0, d.1, d.2)

-- ---- an entry

-- An entry is 23 bytes for a counter, else 30.
pub entry_long : (e : Entry) → length (entry_bytes e) ≡ 4 + axis_length e.saved.config.kind
unfolding entry_bytes field_bytes bytes_of
entry_long e = simp length-append (omega (arith, axis_long e.saved))

-- What an entry may say: a number of one byte, and a configuration and a position within their limits.
pub record Sayable (e : Entry) : Type 0 where
  pub byte : e.axis < 256
  pub limits : within_limits e.saved ≡ true

module _ (s : List ℕ) (at : ℕ) where
  -- An entry that was written at a place is read there, and the next field begins behind it.
  pub entry_back : (e : Entry) (least : ℕ) (rest : List ℕ) → drop at s ≡ entry_bytes e ++ rest → Sayable e → least ≤ e.axis →
      (entry_from s at least ≡ Ok (e, at + length (entry_bytes e))) × (drop (at + length (entry_bytes e)) s ≡ rest)
  unfolding entry_from entry_bytes field_bytes bytes_of
  entry_back e least rest d ok h =
      let f = field_back s at axis_tag 1 e.axis (axis_bytes e.saved ++ rest) (simp append_assoc at d) (lit< tt) ok.byte in
      let x = axis_back s e.saved (at + 3 + 1) ok.limits rest f.1 in
      let back = said_back e.saved ok.limits in
      let y = rw back at (spelt_said s (at + 3 + 1) x (rw back ok.limits)) in
      let long : at + 3 + 1 + length (axis_bytes e.saved) ≡ at + length (entry_bytes e) = omega (
        arith,
        entry_long e,
        axis_long
            e.saved,
      ) in
      (rw (f.0, le-leb least e.axis h, y, long), behind s (entry_bytes e) rest at d)

  -- What an entry that was read passed.
  pub entry_told : (e : Entry) (least next : ℕ) → entry_from s at least ≡ Ok (e, next) →
      (stands_at s at axis_tag 1 ≡ true) × (least ≤ e.axis) × (number_at s (at + 3) 1 ≡ e.axis)
      × (saved_at s (at + 3 + 1) ≡ Ok (e.saved, next))
  unfolding entry_from
  entry_told e least next h = go (test (stands_at s at axis_tag 1)) (test (leb least number)) (saved_at s (at + 3 + 1)) refl (rw on_field_lem at h)
    where
      number : ℕ
      number = number_at s (at + 3) 1

      go : Decided (stands_at s at axis_tag 1) → Decided (leb least number) → (a : Result (Saved × ℕ) Refusal) → saved_at s (at + 3 + 1) ≡ a →
          cond (stands_at s at axis_tag 1) (cond (leb least number) (numbered number (saved_at s (at + 3 + 1))) (Err Value))
          (Err Record)
          ≡ Ok (e, next) →
          (stands_at s at axis_tag 1 ≡ true) × (least ≤ e.axis) × (number ≡ e.axis) × (saved_at s (at + 3 + 1) ≡ Ok (e.saved, next))
      go (no t) l a q k = let j = rw t at k in let z : ◌≡◌ {A = ℕ} 0 1 = cc in absurd (omega arith)
      go (yes t) (no l) a q k = let j = rw (t, l) at k in let z : ◌≡◌ {A = ℕ} 0 1 = cc in absurd (omega arith)
      go (yes t) (yes l) (Err r) q k = let j = rw (t, l, q) at k in let z : ◌≡◌ {A = ℕ} 0 1 = cc in absurd (omega arith)
      go (yes t) (yes l) (Ok (x, after)) q k =
          let v = ok_two (rw (t, l, q) at k) in
          let same : record { axis = number; saved = x } ≡ e = v.0 in
          let n : after ≡ next = v.1 in
          (t, rw (← same) (leb-true least number l), rw (← same), rw (← same, ← n) q)

  module _ (e : Entry) (least next : ℕ) (h : entry_from s at least ≡ Ok (e, next)) where
    -- It says what is within its limits.
    pub entry_within : within_limits e.saved ≡ true
    entry_within = (said_spelt s (at + 3 + 1) (entry_told e least next h).3).2

    -- In a slice of bytes it is the entry that would be written there, and may be said.
    pub entry_again : AllBytes s → (drop at s ≡ entry_bytes e ++ drop next s) × (least ≤ e.axis) × Sayable e
    unfolding entry_bytes
    entry_again b =
        let t = entry_told e least next h in
        let x = e.saved in
        let d = said_spelt s (at + 3 + 1) t.3 in
        let again = rw (← d.1) at (axis_again s (at + 3 + 1) x.config (bits s (at + 3 + 1)) next b d.0) in (
          stands_is s at axis_tag 1 b t.0
              ∙ rw (again, t.2) (sym (append_assoc (field_bytes axis_tag 1 e.axis) (axis_bytes x) (drop next s))),
          t.1,
          record { byte = rw t.2 at (number_below s (at + 3) 1 b); limits = d.2 },
        )
