-- A text as lines, and what it means that its lines were read into a table. Assumes nothing.
use Rattle.std.specs.Prelude.{◌≡◌, ℕ, ◌+◌, ◌-◌, ◌*◌, ◌<◌, ◌≤◌, if◌then◌else◌, ◌⊎◌, List, [], ◌∷◌, ◌++◌, codes, decimal, length, take, Some, None, Ok, Err, Result, ◌==◌, slice_index, slice_index_or, slice_set}
use Rattle.std.specs.List.{onto_first}
use Rattle.hexline.specs.Hex.{word_of}
use Rattle.hexline.specs.declared.table.BadLine.{BadLine}

-- a text cut at its newlines, byte 10; the last newline may be left out
abbrev pub lines_of : List ℕ → List (List ℕ)
lines_of [] = []
lines_of (b ∷ bs) = if b == 10 then [] ∷ lines_of bs else onto_first b (lines_of bs)

-- a line without the newline at its end, if it has one
abbrev pub without_newline : List ℕ → List ℕ
without_newline line = if slice_index line (length line - 1) == 10 then take (length line - 1) line else line

-- a line read into a place of a table, or the line's number and why it is not: malformed, or no such place
abbrev pub LineInto : List ℕ → ℕ → List ℕ → List ℕ → Result (Unit {0}) BadLine → Type 0
LineInto line place before after (Ok x) =
    (place < length before) × (word_of line ≡ Some (slice_index after place)) × (after ≡ slice_set before place (slice_index after place))
LineInto line place before after (Err e) =
    (e.number ≡ place + 1) × (after ≡ before) × ((word_of line ≡ None) ⊎ (length before ≤ place))

-- the first n places hold the words of the first n lines, and the others what they held
pub record Head (lines : List (List ℕ)) (before after : List ℕ) (n : ℕ) : Type 0 where
  pub words : (k : ℕ) → k < n → word_of (slice_index_or lines k []) ≡ Some (slice_index after k)
  pub others : (k : ℕ) → n ≤ k → slice_index after k ≡ slice_index before k

-- each line was read
pub record Whole (lines : List (List ℕ)) (before after : List ℕ) (n : ℕ) : Type 0 where
  pub all : n ≡ length lines
  pub room : n ≤ length before
  pub head : Head lines before after n

-- the lines before the one of this number, counted from 1, were read, and that one is malformed or has no place left
pub record Stopped (lines : List (List ℕ)) (before after : List ℕ) (number : ℕ) : Type 0 where
  pub counted : 1 ≤ number
  pub within : number - 1 < length lines
  pub room : number - 1 ≤ length before
  pub head : Head lines before after (number - 1)
  pub bad : (word_of (slice_index_or lines (number - 1) []) ≡ None) ⊎ (length before ≤ number - 1)

abbrev pub ReadInto : List (List ℕ) → List ℕ → List ℕ → Result ℕ BadLine → Type 0
ReadInto lines before after (Ok n) = Whole lines before after n
ReadInto lines before after (Err e) = Stopped lines before after e.number

-- a text of more than nine bytes for each place has the same answer whatever follows it
abbrev pub Decided : List ℕ → List ℕ → List ℕ → Result ℕ BadLine → Type 0
Decided text before after r = (more : List ℕ) → 9 * length before < length text → ReadInto (lines_of (text ++ more)) before after r

-- what is said of the line of this number
abbrev pub bad_line_text : ℕ → List ℕ
bad_line_text number = codes "bad line " ++ decimal number
