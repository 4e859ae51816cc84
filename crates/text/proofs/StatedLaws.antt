-- What docs/RULES.md states, computed to its end: "Trace program", byte for byte.
use Prim.Native.Nat.{ℕ, ◌+◌, ◌≤◌}
use native.Mathlib.Nat.{zero-add}
use native.Mathlib.Omega.{arith}
use mathlib.Core.Path.{◌≡◌, refl, ap, ◌∙◌}
use mathlib.Core.List.{List, [], ◌∷◌, ◌++◌}
use lib.IntN.{pos, negsuc}
use lib.ListN.{length, drop}
use lib.Seq.{length-sets, sets-eq}
use Rattle.text.specs.Text.{digits_in, decimal, numeral, line_of, text_of, Writes}
use Rattle.text.specs.declared.report.Report.{Report}

-- Five samples, position 4 and no double step: "samples 5", "position 4" and "doubles 0", each with a line feed.
pub forward_text :
    text_of (record { samples = 5; position = pos 4; doubles = 0 })
    ≡ 115 ∷ 97 ∷ 109 ∷ 112 ∷ 108 ∷ 101 ∷ 115 ∷ 32 ∷ 53 ∷ 10
    ∷ 112 ∷ 111 ∷ 115 ∷ 105 ∷ 116 ∷ 105 ∷ 111 ∷ 110 ∷ 32 ∷ 52 ∷ 10
    ∷ 100 ∷ 111 ∷ 117 ∷ 98 ∷ 108 ∷ 101 ∷ 115 ∷ 32 ∷ 48 ∷ 10 ∷ []
unfolding digits_in decimal numeral line_of text_of
forward_text = refl

-- Every digit, and a - below zero: "samples 1098", "position -762" and "doubles 543".
pub backward_text :
    text_of (record { samples = 1098; position = negsuc 761; doubles = 543 })
    ≡ 115 ∷ 97 ∷ 109 ∷ 112 ∷ 108 ∷ 101 ∷ 115 ∷ 32 ∷ 49 ∷ 48 ∷ 57 ∷ 56 ∷ 10
    ∷ 112 ∷ 111 ∷ 115 ∷ 105 ∷ 116 ∷ 105 ∷ 111 ∷ 110 ∷ 32 ∷ 45 ∷ 55 ∷ 54 ∷ 50 ∷ 10
    ∷ 100 ∷ 111 ∷ 117 ∷ 98 ∷ 108 ∷ 101 ∷ 115 ∷ 32 ∷ 53 ∷ 52 ∷ 51 ∷ 10 ∷ []
unfolding digits_in decimal numeral line_of text_of
backward_text = refl

-- A report's text stands at the front of the buffer, and every byte behind it is as it was.
pub text_front : (r : Report) (b d : List ℕ) (n : ℕ) → Writes r b d n → d ≡ text_of r ++ drop n b
text_front r b d n w =
    let long = ap length w.buffer ∙ length-sets b 0 (text_of r) in
    let fits : 0 + length (text_of r) ≤ length b = omega (arith, long, w.fits, w.number) in
    w.buffer ∙ sets-eq (text_of r) b 0 fits ∙ rw (zero-add, w.number)
