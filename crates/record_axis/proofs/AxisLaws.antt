-- The laws of one axis's fields at any place: what is written there is read there, and what is read there is what would be written.
use Rattle.std.specs.Prelude.{Result, Ok, Err, Some, None}
use mathlib.Core.Path.{◌≡◌, refl, sym, ap, ◌∙◌}
use mathlib.Core.Bool.{Bool, true, false, cond}
use mathlib.Core.List.{List, ◌++◌, append_assoc}
use Prim.Native.Nat.{ℕ, ◌+◌, ◌≤◌, ◌<◌}
use native.Mathlib.Omega.{arith}
use borrow.Author.Tests.{eqb-true}
use lib.Dec.{lit<}
use lib.ListN.{length, drop}
use lib.Seq.{drop-append_seam}
use mir.Syntax.{w64}
use mir.Val.{Fits, to_z, of_z}
use mir.Facts.{Fits-of_z, to_z-of_z, of_z-to_z}
use Rattle.integers.proofs.Balance.{Decided, yes, no, test}
use Rattle.refusal.specs.declared.Refusal.{Refusal}
use Rattle.refusal.specs.declared.Refusal.TheVariants.{Value as VALUE, Record}
use Rattle.axis.specs.Kind.{COUNTER, counter_kind}
use Rattle.axis.specs.declared.config.Config.{Config}
use Rattle.tagged.specs.Bytes.{AllBytes, number_at, bytes_of}
use Rattle.tagged.specs.Field.{stands_at, field_at, field_bytes}
use Rattle.tagged.proofs.BytesLaws.{number_below}
use Rattle.tagged.proofs.AnswerLaws.{ok_three}
use Rattle.tagged.proofs.FieldLaws.{field_back, stands_is}
use Rattle.record_axis.specs.declared.saved.Saved.{Saved}
use Rattle.record_axis.specs.Tags.{kind_tag, position_tag, depth_tag, width_tag, turn_tag}
use Rattle.record_axis.specs.AxisFields.{on_field, known_kind, counter_as, sampled_as, counter_at, sampled_at, axis_at}
use Rattle.record_axis.specs.AxisFields.{front_bytes, setting_bytes, axis_bytes, axis_length}
use Rattle.record_axis.specs.Limits.{within_limits, saying}
use Rattle.record_axis.proofs.LimitsLaws.{sampled_kind_lem, known_counter, SoundConfig, sampled, counter, within_config, within_position}

-- A field's answer is a check.
pub on_field_lem : {A : Type 0} (s : List ℕ) (at tag n : ℕ) (r : A) (k : ℕ → ℕ → A) →
    on_field r (field_at s at tag n) k ≡ cond (stands_at s at tag n) (k (number_at s (at + 3) n) (at + 3 + n)) r
unfolding field_at
on_field_lem s at tag n r k = go (stands_at s at tag n)
  where
    go : (t : Bool) → on_field r (cond t (Some (number_at s (at + 3) n, at + 3 + n)) None) k
        ≡ cond t (k (number_at s (at + 3) n) (at + 3 + n)) r
    go true = refl
    go false = refl

-- An axis's fields are 19 bytes for a counter, else 26.
pub axis_long : (s : Saved) → length (axis_bytes s) ≡ axis_length s.config.kind
unfolding axis_bytes front_bytes setting_bytes field_bytes bytes_of
axis_long s = go (test (counter_kind s.config.kind))
  where
    go : Decided (counter_kind s.config.kind) → length (axis_bytes s) ≡ axis_length s.config.kind
    go (yes k) = rw k
    go (no k) = rw k

-- So they are at least the one and at most the other.
pub length_bounds : (k : ℕ) → (19 ≤ axis_length k) × (axis_length k ≤ 26)
length_bounds k = go (counter_kind k)
  where
    go : (t : Bool) → (19 ≤ cond t 19 26) × (cond t 19 26 ≤ 26)
    go true = (omega arith, omega arith)
    go false = (omega arith, omega arith)

-- ---- what is written is read

same : (c : Config) {d v t : ℕ} → c.depth ≡ d → c.width ≡ v → c.turn ≡ t → record { kind = c.kind; depth = d; width = v; turn = t } ≡ c
same c d v t = rw (← d, ← v, ← t)

module _ (s : List ℕ) (x : Saved) (at : ℕ) (w : within_limits x ≡ true) (rest : List ℕ) (e : drop at s ≡ axis_bytes x ++ rest) where
  abbrev c : Config
  c = x.config

  abbrev bits : ℕ
  bits = of_z w64 x.position

  abbrev next : ℕ
  next = at + length (axis_bytes x)

  front : c.kind < 256 →
      (field_at s at kind_tag 1 ≡ Some (c.kind, at + 3 + 1)) × (field_at s (at + 3 + 1) position_tag 8 ≡ Some (bits, at + 3 + 1 + 3 + 8))
      × (drop (at + 3 + 1 + 3 + 8) s ≡ setting_bytes c ++ rest)
  unfolding axis_bytes front_bytes
  front h =
      let k = field_back s at kind_tag 1 c.kind _ (simp append_assoc at e) (lit< tt) h in
      let q = field_back s (at + 3 + 1) position_tag 8 bits _ k.1 (lit< tt) (Fits-of_z {w = w64} (within_position x w)).fits in
      (k.0, q.0, q.1)

  by : SoundConfig c → axis_at s at ≡ Ok (c, bits, next)
  unfolding axis_at counter_at sampled_at setting_bytes
  by (counter ck hw d t) =
      let f = front (omega (arith, eqb-true c.kind COUNTER ck)) in
      let u = field_back s (at + 3 + 1 + 3 + 8) width_tag 1 c.width rest (f.2 ∙ rw ck) (lit< tt) (omega arith) in
      let n : length (axis_bytes x) ≡ 19 = axis_long x ∙ rw ck in
      let place : at + 3 + 1 + 3 + 8 + 3 + 1 ≡ next = omega arith in
      rw (f.0, known_counter c.kind ck, f.1, ck, u.0, place) (ap (λ (z : Config). Ok (z, bits, next)) (same c d refl t))
  by (sampled sk hd v ht) =
      let k = sampled_kind_lem c.kind sk in
      let f = front k.byte in
      let settings : setting_bytes c ++ rest ≡ field_bytes depth_tag 1 c.depth ++ (field_bytes turn_tag 4 c.turn ++ rest) =
      rw k.other (append_assoc (field_bytes depth_tag 1 c.depth) (field_bytes turn_tag 4 c.turn) rest) in
      let u = field_back s (at + 3 + 1 + 3 + 8) depth_tag 1 c.depth _ (f.2 ∙ settings) (lit< tt) (omega arith) in
      let y = field_back s (at + 3 + 1 + 3 + 8 + 3 + 1) turn_tag 4 c.turn rest u.1 (lit< tt) ht in
      let n : length (axis_bytes x) ≡ 26 = axis_long x ∙ rw k.other in
      let place : at + 3 + 1 + 3 + 8 + 3 + 1 + 3 + 4 ≡ next = omega arith in
      rw (f.0, sk, f.1, k.other, u.0, y.0, place) (ap (λ (z : Config). Ok (z, bits, next)) (same c refl v refl))

  -- An axis's fields that were written at a place are read there, and the next field begins behind them.
  pub axis_back : axis_at s at ≡ Ok (c, bits, next)
  axis_back = by (within_config x w)

-- So they are read between any bytes before and any bytes after.
pub axis_between : (pre post : List ℕ) (s : Saved) → within_limits s ≡ true →
    axis_at (pre ++ (axis_bytes s ++ post)) (length pre) ≡ Ok (s.config, of_z w64 s.position, length pre + length (axis_bytes s))
axis_between pre post s w = axis_back (pre ++ (axis_bytes s ++ post)) s (length pre) w post (drop-append_seam pre (axis_bytes s ++ post))

-- What is read there says what was written.
pub said_back : (s : Saved) → within_limits s ≡ true → saying s.config (of_z w64 s.position) ≡ s
said_back s w = rw (to_z-of_z {w = w64} (within_position s w))

-- ---- what is read is written

-- A check that an axis's fields passed.
pub said_if : (t : Bool) (r : Refusal) {x : Result (Config × ℕ × ℕ) Refusal} {c : Config} {bits next : ℕ} → cond t x (Err r) ≡ Ok (c, bits, next) →
    (t ≡ true) × (x ≡ Ok (c, bits, next))
said_if true r e = (refl, e)
said_if false r e = let z : ◌≡◌ {A = ℕ} 0 1 = cc in absurd (omega arith)

-- The fields after a position are those of a configuration of the kind, at the position's bits.
record Settings (s : List ℕ) (at kind bits : ℕ) (c : Config) (said next : ℕ) : Type 0 where
  is_kind : kind ≡ c.kind
  is_bits : bits ≡ said
  stands : drop at s ≡ setting_bytes c ++ drop next s

module _ (s : List ℕ) (b : AllBytes s) (at kind bits : ℕ) (c : Config) (said next : ℕ) where
  counter_again : counter_kind kind ≡ true → counter_at s at kind bits ≡ Ok (c, said, next) → Settings s at kind bits c said next
  unfolding counter_at setting_bytes
  counter_again k h =
      let u = said_if (stands_at s at width_tag 1) Record (rw on_field_lem at h) in
      let v = ok_three u.1 in
      let e : counter_as kind (number_at s (at + 3) 1) ≡ c = v.0 in
      let n : at + 3 + 1 ≡ next = v.2 in
      record { is_kind = ap (λ (x : Config). x.kind) e; is_bits = v.1; stands = rw (← e, ← n, k) (stands_is s at width_tag 1 b u.0) }

  sampled_again : counter_kind kind ≡ false → sampled_at s at kind bits ≡ Ok (c, said, next) → Settings s at kind bits c said next
  unfolding sampled_at setting_bytes
  sampled_again k h =
      let u = said_if (stands_at s at depth_tag 1) Record (rw on_field_lem at h) in
      let x = said_if (stands_at s (at + 3 + 1) turn_tag 4) Record (rw on_field_lem at u.1) in
      let v = ok_three x.1 in
      let depth = field_bytes depth_tag 1 (number_at s (at + 3) 1) in
      let turn = field_bytes turn_tag 4 (number_at s (at + 3 + 1 + 3) 4) in
      let e : sampled_as kind (number_at s (at + 3) 1) (number_at s (at + 3 + 1 + 3) 4) ≡ c = v.0 in
      let n : at + 3 + 1 + 3 + 4 ≡ next = v.2 in
      let both = stands_is s at depth_tag 1 b u.0 ∙ ap (λ (r : List ℕ). depth ++ r) (stands_is s (at + 3 + 1) turn_tag 4 b x.0) in
      record {
        is_kind = ap (λ (x : Config). x.kind) e;
        is_bits = v.1;
        stands = rw (← e, ← n, k) (both ∙ sym (append_assoc depth turn (drop (at + 3 + 1 + 3 + 4) s)));
      }

-- An axis's fields that were read at a place are those that would be written there.
pub axis_again : (s : List ℕ) (at : ℕ) (c : Config) (bits next : ℕ) → AllBytes s → axis_at s at ≡ Ok (c, bits, next) →
    drop at s ≡ axis_bytes (saying c bits) ++ drop next s
unfolding axis_at axis_bytes front_bytes
axis_again s at c bits next b h =
    let f = said_if (stands_at s at kind_tag 1) Record (rw on_field_lem at h) in
    let g = said_if (known_kind kind) VALUE f.1 in
    let p = said_if (stands_at s (at + 3 + 1) position_tag 8) Record (rw on_field_lem at g.1) in
    let q = go (test (counter_kind kind)) p.1 in
    let held : Fits w64 found = record { fits = number_below s (at + 3 + 1 + 3) 8 b } in
    let back = sym (of_z-to_z {w = w64} held) ∙ ap (λ (n : ℕ). of_z w64 (to_z w64 n)) q.is_bits in
    stands_is s at kind_tag 1 b f.0
    ∙ rw (stands_is s (at + 3 + 1) position_tag 8 b p.0, q.stands)
    (ap (λ (k : ℕ). field_bytes kind_tag 1 k ++ (field_bytes position_tag 8 found ++ (setting_bytes c ++ drop next s))) q.is_kind
    ∙ ap (λ (n : ℕ). field_bytes kind_tag 1 c.kind ++ (field_bytes position_tag 8 n ++ (setting_bytes c ++ drop next s))) back
    ∙ simp append_assoc)
  where
    kind : ℕ
    kind = number_at s (at + 3) 1

    place : ℕ
    place = at + 3 + 1 + 3 + 8

    found : ℕ
    found = number_at s (at + 3 + 1 + 3) 8

    go : Decided (counter_kind kind) →
        cond (counter_kind kind) (counter_at s place kind found) (sampled_at s place kind found) ≡ Ok (c, bits, next) →
        Settings s place kind found c bits next
    go (yes k) e = counter_again s b place kind found c bits next k (rw k at e)
    go (no k) e = sampled_again s b place kind found c bits next k (rw k at e)
