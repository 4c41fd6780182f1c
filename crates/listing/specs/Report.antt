-- What the program prints for a text and an input count. Assumes nothing.
use Rattle.std.specs.Prelude.{◌≡◌, ℕ, zero, suc, ◌<◌, if◌then◌else◌, List, [], ◌++◌, length, take, replicate, Some, None, Ok, Err, codes, decimal, Option, Result, nat_lt, slice_index}
use Rattle.formula.specs.Admission.{Answers, counted_by}
use Rattle.formula.specs.Binders.{binders}
use Rattle.formula.specs.Refusals.{refusal_text}
use Rattle.formula.specs.Spelling.{in_words, not_allowed_text}
use Rattle.formula.specs.Words.{shape_at}
use Rattle.formula.specs.declared.Refusal.{Refusal}
use Rattle.formula.specs.declared.Word.{Word}
use Rattle.hexline.specs.Hex.{line_of}
use Rattle.hexline.specs.Lines.{ReadInto, bad_line_text, lines_of}
use Rattle.hexline.specs.declared.BadLine.{BadLine}

-- a binder count, where admission wrote one
abbrev pub count_text : Option ℕ → List ℕ
count_text (Some n) = codes "binders " ++ decimal n
count_text None = codes "not counted"

abbrev pub shape_text : Option Word → List ℕ
shape_text (Some word) = in_words word
shape_text None = not_allowed_text

-- a place with its word in hexadecimal digits, its shape in words and its binder count
abbrev pub row_text : ℕ → ℕ → Option Word → Option ℕ → List ℕ
row_text place word shape count =
    decimal place ++ (codes " " ++ (line_of word ++ (codes " " ++ (shape_text shape ++ (codes ", " ++ (count_text count ++ codes "\n"))))))

-- the binder count of a place, where counts are written for so many places
abbrev pub count_at : List ℕ → ℕ → ℕ → Option ℕ
count_at words counted place = if nat_lt place counted then Some (binders words place) else None

-- the rows of the first so many places
abbrev pub rows_text : List ℕ → ℕ → ℕ → List ℕ
rows_text words counted zero = []
rows_text words counted (suc n) = rows_text words counted n ++ row_text n (slice_index words n) (shape_at words n) (count_at words counted n)

abbrev pub verdict_text : Result (Unit {0}) Refusal → List ℕ
verdict_text (Ok x) = codes "admitted\n"
verdict_text (Err why) = refusal_text why ++ codes "\n"

-- out lists the words and says how admission answered
abbrev pub Listed : List ℕ → ℕ → List ℕ → Type 0
Listed words inputs out =
    (answer : Result (Unit {0}) Refusal) × Answers inputs words 4096 answer × (out ≡ rows_text words (counted_by words answer) (length words) ++ verdict_text answer)

-- out is what is printed of a table that a text was read into
abbrev pub Told : ℕ → List ℕ → Result ℕ BadLine → List ℕ → Type 0
Told inputs table (Ok n) out = Listed (take n table) inputs out
Told inputs table (Err bad) out = out ≡ bad_line_text bad.number ++ codes "\n"

-- out is what is printed of a text: its lines are read into a table of 4,096 places, which is then listed
abbrev pub Reported : List ℕ → ℕ → List ℕ → Type 0
Reported text inputs out =
    (table : List ℕ) × (lines : Result ℕ BadLine) × ReadInto (lines_of text) (replicate 4096 0) table lines × Told inputs table lines out

-- the same of every text that begins with this one, if it is longer than 4,096 lines can be
abbrev pub Decided : List ℕ → ℕ → List ℕ → Type 0
Decided text inputs out = (more : List ℕ) → 36864 < length text → Reported (text ++ more) inputs out
