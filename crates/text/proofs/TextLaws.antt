-- The laws of a report's text: docs/RULES.md, "Trace program".
use Prim.Native.Nat.{ℕ, suc, ◌+◌, ◌%◌, ◌^◌, ◌≤◌, ◌<◌}
use native.Mathlib.Nat.{zero-add}
use native.Mathlib.Omega.{arith}
use mathlib.Core.Path.{◌≡◌, sym, ap, ◌∙◌}
use mathlib.Core.List.{List, [], ◌∷◌, ◌++◌}
use lib.IntN.{ℤ, pos, negsuc}
use lib.ListN.{length, length-append}
use lib.Seq.{length-sets}
use mir.Syntax.{w64}
use mir.Val.{SFits, to_z, of_z}
use Rattle.std.specs.Fmt.{signed_decimal}
use Rattle.std.specs.Fmt as Fmt
use Rattle.std.proofs.lemmas.Fmt.{decimal_digit, decimal_step}
use Rattle.integers.proofs.Machine.{i64_fits, back}
use Rattle.tagged.specs.Store.{Puts}
use Rattle.tagged.proofs.StoreLaws.{puts_then}
use Rattle.text.specs.Text.{FEED, MINUS, ZERO, samples_label, position_label, doubles_label, decimal, numeral, line_of, text_of, Writes}
use Rattle.text.specs.declared.report.Report.{Report}
use Rattle.text.proofs.DecimalLaws.{by_digits, decimal_one, decimal_more, decimal_length}

-- ---- a number's digits

-- The text of a number is its digits.
pub printed : (n : ℕ) → n < 2 ^ 64 → Fmt.decimal n ≡ decimal n
printed = by_digits (λ n. n < 2 ^ 64 → Fmt.decimal n ≡ decimal n)
    (λ n h k. decimal_digit n h ∙ sym (decimal_one n h))
    (λ n h f k.
    decimal_step n h k ∙ ap (λ (ds : List ℕ). ds ++ ((ZERO + n % 10) ∷ [])) (f (omega arith)) ∙ sym (decimal_more n h))

-- The text of a position is its numeral.
pub printed_signed : (z : ℤ) → SFits w64 z → signed_decimal z ≡ numeral z
unfolding numeral
printed_signed (pos n) f = let h = i64_fits f in printed n (omega arith)
printed_signed (negsuc n) f = let h = i64_fits f in ap (λ (ds : List ℕ). MINUS ∷ ds) (printed (suc n) (omega arith))

-- ---- a line

-- The bytes of a line: its label, its number and one more.
pub line_length : (label ds : List ℕ) → length (line_of label ds) ≡ length label + length ds + 1
unfolding line_of
line_length label ds = simp length-append (omega arith)

-- A label, digits and a line feed are a line.
pub puts_line : {label ds b m l d : List ℕ} {at i j r : ℕ} →
    Puts label b at m i → Puts ds m i l j → Puts (FEED ∷ []) l j d r → Puts (line_of label ds) b at d r
unfolding line_of
puts_line p q f = puts_then p (puts_then q f)

-- ---- the room of a report

-- A line whose number is below 10 ^ k, k above 0.
line_room : (label : List ℕ) (k n : ℕ) → n < 10 ^ suc k → length (line_of label (decimal n)) ≤ length label + suc k + 1
line_room label k n h = omega (arith, line_length label (decimal n), decimal_length k n h)

pub samples_room : (n : ℕ) → n < 2 ^ 64 → length (line_of samples_label (decimal n)) ≤ 29
samples_room n h = line_room samples_label 19 n (omega arith)

pub doubles_room : (n : ℕ) → n < 2 ^ 16 → length (line_of doubles_label (decimal n)) ≤ 14
doubles_room n h = line_room doubles_label 4 n (omega arith)

pub position_room : (z : ℤ) → SFits w64 z → length (line_of position_label (numeral z)) ≤ 30
unfolding numeral
position_room (pos n) f = let h = i64_fits f in omega (arith, line_room position_label 18 n (omega arith))
position_room (negsuc n) f =
    let h = i64_fits f in omega (arith, line_length position_label (MINUS ∷ decimal (suc n)), decimal_length 18 (suc n) (omega arith))

-- Each line as it is printed takes no more.
pub samples_fit : (n : ℕ) → n < 2 ^ 64 → length (line_of samples_label (Fmt.decimal n)) ≤ 29
samples_fit n h = rw (printed n h) (samples_room n h)

pub position_fits : (z : ℤ) → SFits w64 z → length (line_of position_label (signed_decimal z)) ≤ 30
position_fits z f = rw (printed_signed z f) (position_room z f)

pub doubles_fit : (n : ℕ) → n < 2 ^ 16 → length (line_of doubles_label (Fmt.decimal n)) ≤ 14
doubles_fit n h = rw (printed n (omega arith)) (doubles_room n h)

-- All three of them.
pub ruleset lines_fit = (samples_fit, position_fits, doubles_fit)

-- The three lines in a row are the report's text.
pub puts_lines : (r : Report) {b m l d : List ℕ} {i j n : ℕ} →
    Puts (line_of samples_label (decimal r.samples)) b 0 m i → Puts (line_of position_label (numeral r.position)) m i l j →
    Puts (line_of doubles_label (decimal r.doubles)) l j d n →
    Puts (text_of r) b 0 d n
unfolding text_of
puts_lines r p q f = puts_then p (puts_then q f)

-- Three printed lines in a row are the report's text, the position as the machine reads it back.
pub puts_text : (r : Report) {b m l d : List ℕ} {i j n : ℕ} → r.samples < 2 ^ 64 → SFits w64 r.position → r.doubles < 2 ^ 16 → 73 ≤ length b →
    Puts (line_of samples_label (Fmt.decimal r.samples)) b 0 m i →
    Puts (line_of position_label (signed_decimal (to_z w64 (of_z w64 r.position)))) m i l j →
    Puts (line_of doubles_label (Fmt.decimal r.doubles)) l j d n →
    Writes r b d n
unfolding text_of
puts_text r {b} s p k room x y z =
    let x = rw (printed r.samples s) at x in
    let y = rw (back p, printed_signed r.position p) at y in
    let z = rw (printed r.doubles (omega arith)) at z in
    let w = puts_lines r x y z in
    record {
      buffer = w.buffer;
      number = w.behind ∙ zero-add _;
      fits = omega (
        arith,
        samples_room r.samples s,
        position_room r.position p,
        doubles_room r.doubles k,
        x.behind,
        y.behind,
        z.behind,
        ap length w.buffer,
        length-sets b 0 (text_of r),
      );
    }
