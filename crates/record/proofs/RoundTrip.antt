-- A record that was written is read back, and a slice that was accepted is what is written again.
use Rattle.std.specs.Prelude.{Result, Ok, Err}
use mathlib.Core.Path.{◌≡◌, refl, sym, ap, ◌∙◌}
use mathlib.Core.Bool.{Bool, true, false}
use mathlib.Core.List.{List, [], ◌++◌}
use Prim.Native.Nat.{ℕ, ◌+◌}
use native.Mathlib.Omega.{arith}
use borrow.Author.Tests.{eq-eqb, eqb-true}
use lib.Dec.{eqb, lit<}
use lib.ListN.{length, drop, length-append, drop_of_length-le}
use mir.Syntax.{w64}
use mir.Facts.{to_z-of_z}
use Rattle.refusal.specs.declared.Refusal.{Refusal}
use Rattle.refusal.specs.declared.Refusal.TheVariants.{Value, Record}
use Rattle.axis.specs.declared.config.Config.{Config}
use Rattle.tagged.specs.Bytes.{AllBytes, bytes_of, starts}
use Rattle.tagged.specs.Field.{stands_at, field_bytes}
use Rattle.tagged.proofs.BytesLaws.{starts_is}
use Rattle.tagged.proofs.FieldLaws.{behind, stands_is, field_back}
use Rattle.record_axis.specs.declared.saved.Saved.{Saved}
use Rattle.record.specs.Opening.{opening}
use Rattle.record.specs.Tags.{end_tag}
use Rattle.record_axis.specs.AxisFields.{axis_at, axis_bytes}
use Rattle.record_axis.specs.Limits.{within_limits, saying}
use Rattle.record.specs.Record.{check, layout_refusal, ended_at, on_axis, read_as, record_of}
use Rattle.record_axis.proofs.LimitsLaws.{within_position}
use Rattle.record_axis.proofs.AxisLaws.{on_field_lem}
use Rattle.record_axis.proofs.AxisLaws.{axis_back, axis_again}

-- What is written is read.
pub written_read : (s : Saved) → within_limits s ≡ true → read_as (record_of s) ≡ Ok s
unfolding read_as ended_at record_of starts field_bytes bytes_of
written_read s w =
    let end = field_bytes end_tag 0 0 in
    let l = record_of s in
    let next = 5 + length (axis_bytes s) in
    let f = field_back l next end_tag 0 0 [] (behind l (axis_bytes s) end 5 refl) (lit< tt) (lit< tt) in
    let whole : eqb (length l) (next + 3 + 0) ≡ true = eq-eqb (length l) (next + 3 + 0) (simp length-append (omega arith)) in
    rw (axis_back l s 5 w end refl, f.0, whole, to_z-of_z {w = w64} (within_position s w), w)

-- ---- what is read is written

-- A check that a record passed.
passed_if : (t : Bool) (r : Refusal) {x : Result Saved Refusal} {said : Saved} → check t r x ≡ Ok said → (t ≡ true) × (x ≡ Ok said)
passed_if true r e = (refl, e)
passed_if false r e = let z : ◌≡◌ {A = ℕ} 0 1 = cc in absurd (omega arith)

-- What an accepted slice passed, and what it says.
pub record Passed (s : List ℕ) (said : Saved) : Type 0 where
  pub config : Config
  pub bits : ℕ
  pub next : ℕ
  pub opens : starts opening s ≡ true
  pub axis : axis_at s 5 ≡ Ok (config, bits, next)
  pub ends : stands_at s next end_tag 0 ≡ true
  pub whole : eqb (length s) (next + 3 + 0) ≡ true
  pub limits : within_limits said ≡ true
  pub says : said ≡ saying config bits

pub passed : (s : List ℕ) (said : Saved) → read_as s ≡ Ok said → Passed s said
unfolding read_as ended_at
passed s said h = let o = passed_if (starts opening s) (layout_refusal s) h in go (axis_at s 5) refl o.0 o.1
  where
    go : (x : Result (Config × ℕ × ℕ) Refusal) → axis_at s 5 ≡ x → starts opening s ≡ true →
        on_axis x (λ c bits at. ended_at s at c bits) ≡ Ok said → Passed s said
    go (Err r) e o h = let z : ◌≡◌ {A = ℕ} 0 1 = cc in absurd (omega arith)
    go (Ok (c, bits, next)) e o h =
        let f = passed_if (stands_at s next end_tag 0) Record (rw on_field_lem at h) in
        let n = passed_if (eqb (length s) (next + 3 + 0)) Record f.1 in
        let l = passed_if (within_limits (saying c bits)) Value n.1 in
        let a = l.1 in
        let q : said ≡ saying c bits = cc in
        record {
          config = c;
          bits = bits;
          next = next;
          opens = o;
          axis = e;
          ends = f.0;
          whole = n.0;
          limits = ap within_limits q ∙ l.0;
          says = q;
        }

pub read_written : (s : List ℕ) → AllBytes s → (said : Saved) → read_as s ≡ Ok said → record_of said ≡ s
unfolding record_of field_bytes bytes_of
read_written s b said h =
    let p = passed s said h in
    let long = eqb-true (length s) (p.next + 3 + 0) p.whole in
    let nothing : drop (p.next + 3 + 0) s ≡ [] = drop_of_length-le s {i = p.next + 3 + 0} (omega arith) in
    let end : drop p.next s ≡ field_bytes end_tag 0 0 = stands_is s p.next end_tag 0 b p.ends ∙ rw nothing in
    let axis = axis_again s 5 p.config p.bits p.next b p.axis in
    ap record_of p.says
    ∙ ap (λ (r : List ℕ). opening ++ (axis_bytes (saying p.config p.bits) ++ r)) (sym end)
    ∙ ap (λ (r : List ℕ). opening ++ r) (sym axis)
    ∙ sym (starts_is opening s p.opens)
