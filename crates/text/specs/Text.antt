-- A report as three lines of text: docs/RULES.md, "Trace program".
use Rattle.std.specs.Prelude.{ℕ, zero, suc, ◌+◌, ◌*◌, ◌-◌, ◌/◌, ◌%◌, ◌≤◌, ◌≡◌, cond, List, [], ◌∷◌, ◌++◌, ltb, ℤ, pos, negsuc, length}
use Rattle.std.proofs.lemmas.List.Edits.{sets}
use Rattle.text.specs.declared.report.Report.{Report}

-- The byte of a line feed.
abbrev pub FEED : ℕ
FEED = 10

-- The byte of a -.
abbrev pub MINUS : ℕ
MINUS = 45

-- The byte of the digit 0, behind which the other digits stand in order.
abbrev pub ZERO : ℕ
ZERO = 48

-- The decimal digits of a number, the highest first, where no more than so many are needed.
unfoldable pub digits_in : ℕ → ℕ → List ℕ
digits_in zero n = []
digits_in (suc k) n = cond (ltb n 10) ((ZERO + n) ∷ []) (digits_in k (n / 10) ++ ((ZERO + n % 10) ∷ []))

-- The decimal digits of a number, the highest first.
unfoldable pub decimal : ℕ → List ℕ
decimal n = digits_in (suc n) n

-- The number that digits behind another number make.
unfoldable pub value_from : ℕ → List ℕ → ℕ
value_from v [] = v
value_from v (d ∷ ds) = value_from (v * 10 + (d - ZERO)) ds

-- A whole number, with a leading - below zero.
unfoldable pub numeral : ℤ → List ℕ
numeral (pos n) = decimal n
numeral (negsuc n) = MINUS ∷ decimal (suc n)

-- A line: its label, a number and a line feed.
unfoldable pub line_of : List ℕ → List ℕ → List ℕ
line_of label number = label ++ (number ++ (FEED ∷ []))

-- The label of the samples, `samples` and a space.
abbrev pub samples_label : List ℕ
samples_label = 115 ∷ 97 ∷ 109 ∷ 112 ∷ 108 ∷ 101 ∷ 115 ∷ 32 ∷ []

-- The label of the position, `position` and a space.
abbrev pub position_label : List ℕ
position_label = 112 ∷ 111 ∷ 115 ∷ 105 ∷ 116 ∷ 105 ∷ 111 ∷ 110 ∷ 32 ∷ []

-- The label of the doubles, `doubles` and a space.
abbrev pub doubles_label : List ℕ
doubles_label = 100 ∷ 111 ∷ 117 ∷ 98 ∷ 108 ∷ 101 ∷ 115 ∷ 32 ∷ []

-- The three lines of a report.
unfoldable pub text_of : Report → List ℕ
text_of r = line_of samples_label (decimal r.samples)
    ++ (line_of position_label (numeral r.position) ++ line_of doubles_label (decimal r.doubles))

-- What writing a report promises: its text at the front of the buffer and no other byte, the number of its bytes, and that they fit.
pub record Writes (r : Report) (b d : List ℕ) (n : ℕ) : Type 0 where
  pub buffer : d ≡ sets b 0 (text_of r)
  pub number : n ≡ length (text_of r)
  pub fits : n ≤ length d
