-- What the bits of a word say: its shape. Assumes nothing.
use Rattle.std.specs.Prelude.{◌≡◌, ℕ, ◌/◌, ◌%◌, ◌^◌, ◌<◌, if◌then◌else◌, List, ℤ, pos, ◌-ℤ◌, Some, None, Option, Result, IfOk, ok_or, option_map, ◌==◌, nat_lt, slice_index}
use Rattle.formula.specs.declared.word.NotAllowed.{NotAllowed}
use Rattle.formula.specs.declared.word.Word.{Word}
use Rattle.formula.specs.declared.word.Word.TheVariants.{Number, Variable, Operation as Op, Input, Abstraction, Application}
use Rattle.formula.specs.Operations.{operation_of}

-- so many bits of a word, from bit `low` upwards
abbrev pub bit_field : ℕ → ℕ → ℕ → ℕ
bit_field word low many = word / 2 ^ low % 2 ^ many

-- thirty bits in two's complement
abbrev pub twos_complement : ℕ → ℤ
twos_complement n = if nat_lt n (2 ^ 29) then pos n else pos n -ℤ pos (2 ^ 30)

-- a leaf by its tell and its index; none with tell 3, or with tell 1 and no operation's code
abbrev pub leaf_shape : ℕ → ℕ → Option Word
leaf_shape tell index =
    if tell == 0 then Some (Variable index) else
    if tell == 1 then option_map Op (operation_of index) else
    if tell == 2 then Some (Input index) else None

-- a word of a kind
abbrev pub kind_shape : ℕ → ℕ → Option Word
kind_shape kind word =
    if kind == 0 then Some (Number (twos_complement (bit_field word 0 30))) else
    if kind == 1 then leaf_shape (bit_field word 28 2) (bit_field word 0 28) else
    if kind == 2 then Some (Abstraction (bit_field word 0 30)) else
    Some (Application (bit_field word 15 15) (bit_field word 0 15))

-- the top two bits are the kind
unfoldable pub shape : ℕ → Option Word
shape word = kind_shape (bit_field word 30 2) word

-- the shape of the word at a place
abbrev pub shape_at : List ℕ → ℕ → Option Word
shape_at words place = shape (slice_index words place)

-- the index of a leaf, 0 of any other word
abbrev pub index_of : Word → ℕ
index_of (Variable i) = i
index_of (Input i) = i
index_of (Number n) = 0
index_of (Op op) = 0
index_of (Abstraction body) = 0
index_of (Application function argument) = 0

-- a shape, or that there is none
abbrev pub decoded_word : Option Word → Result Word NotAllowed
decoded_word shape = ok_or shape (record {})

-- what decoding answers: the word's shape, whose index has 28 bits
pub record Decoded (word : ℕ) (result : Result Word NotAllowed) : Type 0 where
  pub is_shape : result ≡ decoded_word (shape word)
  pub index : IfOk result (λ shape. index_of shape < 2 ^ 28)
