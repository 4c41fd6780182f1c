-- A text that is longer than its table has room for ends at the same line whatever follows it.
use Rattle.std.proofs.Common.{◌≡◌, ℕ, suc, ◌+◌, ◌-◌, ◌*◌, ◌<◌, ◌≤◌, List, [], ◌∷◌, ◌++◌, length, get_or, drop, Some, None, ap, ◌∙◌, inl, inr, ⊎_elim, arith}
use Rattle.std.proofs.lemmas.List.{drop_all, drop_more}
use Rattle.std.proofs.lemmas.Bool.{cases_lt}
use Rattle.std.proofs.lemmas.Bool.Decides.{nat_tests}
use Rattle.hexline.specs.Hex.{word_of}
use Rattle.hexline.specs.Lines.{lines_of, Head, Whole, Stopped}

-- ls begins qs: each line but the last is the same, and the last may go on
abbrev Begins : List (List ℕ) → List (List ℕ) → Type 0
Begins [] qs = Unit {0}
Begins (l ∷ []) [] = ⊥
Begins (l ∷ []) (q ∷ qs) = length l ≤ length q
Begins (l ∷ k ∷ ls) [] = ⊥
Begins (l ∷ k ∷ ls) (q ∷ qs) = (q ≡ l) × Begins (k ∷ ls) qs

begins : (text more : List ℕ) → Begins (lines_of text) (lines_of (text ++ more))
begins [] more = tt
begins (b ∷ bs) more = grind (arith, nat_tests, begins bs more)

same_line : (ls qs : List (List ℕ)) → Begins ls qs → (k : ℕ) → k + 1 < length ls → get_or qs k [] ≡ get_or ls k []
same_line (l ∷ x ∷ ls) (q ∷ qs) h (suc k) lt = same_line (x ∷ ls) qs h.1 k (omega arith)
same_line ls qs h k lt = grind arith

no_shorter : (ls qs : List (List ℕ)) → Begins ls qs → (k : ℕ) → k < length ls → (k < length qs) × (length (get_or ls k []) ≤ length (get_or qs k []))
no_shorter (l ∷ x ∷ ls) (q ∷ qs) h (suc k) lt = grind (arith, no_shorter (x ∷ ls) qs h.1 k (omega arith))
no_shorter ls qs h k lt = grind arith

-- the bytes of lines, each with a newline
abbrev size : List (List ℕ) → ℕ
size [] = 0
size (l ∷ ls) = length l + 1 + size ls

all_bytes : (text : List ℕ) → length text ≤ size (lines_of text)
all_bytes [] = omega arith
all_bytes (b ∷ bs) = grind (arith, nat_tests, all_bytes bs)

nine_each : (ls : List (List ℕ)) (n : ℕ) → n ≤ length ls → ((k : ℕ) → k < n → length (get_or ls k []) ≡ 8) → size ls ≡ 9 * n + size (drop n ls)
nine_each (l ∷ ls) (suc n) le eight = omega (arith, eight 0 (omega arith), nine_each ls n (omega arith) (λ k h. eight (suc k) (omega arith)))
nine_each ls n le eight = grind arith

word_length : (l : List ℕ) (w : ℕ) → word_of l ≡ Some w → length l ≡ 8
word_length l w e = grind (arith, nat_tests)

long_line : (l : List ℕ) → 8 < length l → word_of l ≡ None
long_line l h = grind (arith, nat_tests)

module _ (text more before after : List ℕ) (big : 9 * length before < length text) where
  same : (k : ℕ) → k + 1 < length (lines_of text) → get_or (lines_of (text ++ more)) k [] ≡ get_or (lines_of text) k []
  same = same_line (lines_of text) (lines_of (text ++ more)) (begins text more)

  kept : (k : ℕ) → k < length (lines_of text) → (k < length (lines_of (text ++ more))) × (length (get_or (lines_of text) k []) ≤ length (get_or (lines_of (text ++ more)) k []))
  kept = no_shorter (lines_of text) (lines_of (text ++ more)) (begins text more)

  -- what n lines that are words leave of the text
  left : (n : ℕ) → n ≤ length (lines_of text) → Head (lines_of text) before after n → length text ≤ 9 * n + size (drop n (lines_of text))
  left n le head = grind (arith, all_bytes text, nine_each (lines_of text) n le, word_length, head.words)

  pub whole_longer : (n : ℕ) → Whole (lines_of text) before after n → Whole (lines_of (text ++ more)) before after n
  whole_longer n h = absurd (grind (arith, left n (omega (arith, h.all)) h.head, h.room, h.all, drop_all n (lines_of text)))

  -- a line that is not read, and has a place, stays unread
  still_bad : (n : ℕ) → n < length (lines_of text) → Head (lines_of text) before after n → word_of (get_or (lines_of text) n []) ≡ None → n < length before → word_of (get_or (lines_of (text ++ more)) n []) ≡ None
  still_bad n lt head bad room =
      grind (arith, same n, kept n lt, left n (omega arith) head, drop_more (lines_of text) n [] lt, drop_all (n + 1) (lines_of text), long_line)

  pub stopped_longer : (number : ℕ) → Stopped (lines_of text) before after number → Stopped (lines_of (text ++ more)) before after number
  stopped_longer number h = record {
    counted = h.counted;
    within = (kept (number - 1) h.within).0;
    room = h.room;
    head = record { words = λ k lt. ap word_of (same k (omega (arith, h.within))) ∙ h.head.words k lt; others = h.head.others };
    bad =
        ⊎_elim
        (λ malformed. ⊎_elim (λ free. inl (still_bad (number - 1) h.within h.head malformed free)) inr (cases_lt (number - 1) (length before)))
        inr
        h.bad;
  }
