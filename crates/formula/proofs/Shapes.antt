-- The index of a leaf has 28 bits. Assumes nothing.
use Rattle.std.proofs.Common.{ℕ, ◌/◌, ◌^◌, ◌<◌, Bool, true, false, if◌then◌else◌, IfOk, ◌==◌, Some, None, Option, refl, arith}
use Rattle.std.proofs.lemmas.Nat.{mod_below, pow_pos}
use Rattle.formula.specs.declared.operation.Operation.{Operation}
use Rattle.formula.specs.declared.word.Word.{Word}
use Rattle.formula.specs.declared.word.Word.TheVariants.{Number, Variable, Operation as Op, Input, Abstraction, Application}
use Rattle.formula.specs.Operations.{operation_of}
use Rattle.formula.specs.Words.{Decoded, decoded_word, bit_field, index_of, kind_shape, leaf_shape, shape}
use Rattle.std.specs.Option.{option_map}

record Small (shape : Option Word) : Type 0 where
  index : IfOk (decoded_word shape) (λ word. index_of word < 2 ^ 28)

either : (b : Bool) (x y : Option Word) → Small x → Small y → Small (if b then x else y)
either true x y p q = p
either false x y p q = q

leaf : (word : Word) → index_of word < 2 ^ 28 → Small (Some word)
leaf word h = record { index = h }

none : Small None
none = record { index = tt }

operation_small : (o : Option Operation) → Small (option_map Op o)
operation_small None = none
operation_small (Some op) = leaf (Op op) (omega arith)

leaf_small : (tell index : ℕ) → index < 2 ^ 28 → Small (leaf_shape tell index)
leaf_small tell index h =
    either (tell == 0) _ _ (leaf (Variable index) h)
    (either (tell == 1) _ _ (operation_small (operation_of index)) (either (tell == 2) _ _ (leaf (Input index) h) none))

kind_small : (kind word : ℕ) → Small (kind_shape kind word)
kind_small kind word =
    either (kind == 0) _ _ (leaf (Number _) (omega arith))
    (either (kind == 1) _ _ (leaf_small (bit_field word 28 2) (bit_field word 0 28) (mod_below (word / 2 ^ 0) (2 ^ 28) (pow_pos 28)))
    (either (kind == 2) _ _ (leaf (Abstraction _) (omega arith)) (leaf (Application _ _) (omega arith))))

pub shape_decoded : (word : ℕ) → Decoded word (decoded_word (shape word))
unfolding shape
shape_decoded word = record { is_shape = refl; index = (kind_small (bit_field word 30 2) word).index }
