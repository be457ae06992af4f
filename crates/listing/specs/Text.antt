-- The listing of a table: lines of words and decimal numbers, from the answer and the model.
use Rattle.std.specs.Prelude.{◌≡◌, cond, List, [], ◌∷◌, ◌++◌, ℕ, zero, suc, ◌+◌, ◌*◌, ◌/◌, ◌%◌, eqb, ltb, length, get_or}
use Rattle.std.specs.Prelude.{take, drop, Ok, Err}
use Rattle.table.specs.Constants.{most_routines, row_names, row_cells, row_bytes}
use Rattle.table.specs.Refusal.{refusal_number}
use Rattle.analysis.specs.Answer.{Answer, Analysed}
use Rattle.analysis.specs.declared.Share.{Share}
use Rattle.analysis.specs.declared.Verdict.{Verdict}
use Rattle.analysis.specs.declared.Verdict.TheVariants.{Clear, Ring}

-- the words of a listing, in ASCII: routines, pair, share, clear, ring, refused
abbrev pub routines_word : List ℕ
routines_word = 114 ∷ 111 ∷ 117 ∷ 116 ∷ 105 ∷ 110 ∷ 101 ∷ 115 ∷ []

abbrev pub pair_word : List ℕ
pair_word = 112 ∷ 97 ∷ 105 ∷ 114 ∷ []

abbrev pub share_word : List ℕ
share_word = 115 ∷ 104 ∷ 97 ∷ 114 ∷ 101 ∷ []

abbrev pub clear_word : List ℕ
clear_word = 99 ∷ 108 ∷ 101 ∷ 97 ∷ 114 ∷ []

abbrev pub ring_word : List ℕ
ring_word = 114 ∷ 105 ∷ 110 ∷ 103 ∷ []

abbrev pub refused_word : List ℕ
refused_word = 114 ∷ 101 ∷ 102 ∷ 117 ∷ 115 ∷ 101 ∷ 100 ∷ []

-- the byte between two parts of a line, and the byte that closes a line
abbrev pub space : ℕ
space = 32

abbrev pub line_end : ℕ
line_end = 10

-- a digit in ASCII
abbrev pub digit : ℕ → ℕ
digit d = 48 + d

-- the decimal digits of n, the highest first, where n has at most k of them
unfoldable pub digits : ℕ → ℕ → List ℕ
digits zero n = []
digits (suc k) n = cond (ltb n 10) (digit n ∷ []) (digits k (n / 10) ++ (digit (n % 10) ∷ []))

-- n as a decimal number (it has at most n + 1 digits)
abbrev pub decimal : ℕ → List ℕ
decimal n = digits (suc n) n

-- what follows the word of a line: each number after a space, and the line's end
abbrev pub numbers : List ℕ → List ℕ
numbers [] = line_end ∷ []
numbers (n ∷ ns) = space ∷ decimal n ++ numbers ns

-- a line: a word and its numbers
abbrev pub line : List ℕ → List ℕ → List ℕ
line word ns = word ++ numbers ns

-- the texts f 0, f 1 and so on, n of them, one after the other
unfoldable pub each : ℕ → (ℕ → List ℕ) → List ℕ
each zero f = []
each (suc n) f = each n f ++ f n

-- the line of cell (a, b) of routine r's row, if the cell is not 0
abbrev pub cell_line : List ℕ → ℕ → ℕ → ℕ → List ℕ
cell_line model r a b =
    let v = get_or model (row_bytes * r + (row_names * a + b)) 0 in cond (eqb v 0) [] (line pair_word (r ∷ a ∷ b ∷ v ∷ []))

-- the lines of the rows of n routines, by routine, then a, then b
abbrev pub pair_lines : ℕ → List ℕ → List ℕ
pair_lines n model = each n (λ r. each row_names (λ a. each row_names (λ b. cell_line model r a b)))

-- the line of a share: the whole percentage, the remainder, and the number of reached routines
abbrev pub share_line : Share → List ℕ
share_line share = line share_word (share.percent ∷ share.remainder ∷ share.reached ∷ [])

-- the line of a verdict
abbrev pub verdict_line : Verdict → List ℕ
verdict_line Clear = line clear_word []
verdict_line (Ring ring) = line ring_word (ring.routine ∷ ring.name ∷ [])

-- the listing of a table of n routines that is judged
abbrev pub judged_listing : ℕ → List ℕ → Verdict → Share → List ℕ
judged_listing n model verdict share =
    line routines_word (n ∷ []) ++ pair_lines n model ++ share_line share ++ verdict_line verdict

-- the listing of a table of n routines, from the answer and the model; the number of rounds is not in it
abbrev pub listing : ℕ → List ℕ → Answer → List ℕ
listing n model (Ok j) = judged_listing n model j.verdict j.share
listing n model (Err r) = line refused_word (refusal_number r ∷ [])

-- the buffer after a text was written from its beginning on: as much of the text as there is room for, and then what was
-- there before
abbrev pub over : List ℕ → List ℕ → List ℕ
over text before = take (length before) text ++ drop (length text) before

-- how long a listing is at most: the first line, a line of 16 bytes for each cell of each routine, the share's line and
-- the verdict's
abbrev pub longest : ℕ
longest = 12 + most_routines * row_cells * 16 + 15 + 11

-- what `list` leaves: the analysis of the table, its listing in the lent buffer, and the listing's length; n is the
-- table's first byte, the number of routines
pub record Listed (table model₀ model₁ out₀ out₁ : List ℕ) (size : ℕ) : Type 0 where
  pub answer : Answer
  pub analysed : Analysed table model₀ model₁ answer
  pub text : out₁ ≡ over (listing (get_or table 0 0) model₁ answer) out₀
  pub whole : size ≡ length (listing (get_or table 0 0) model₁ answer)
