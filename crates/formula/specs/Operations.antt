-- The six operations, their codes and their names. Assumes nothing.
use Rattle.std.specs.Prelude.{ℕ, List, ◌++◌, codes, decimal, if◌then◌else◌, Some, None, Option, Result, ok_or, ◌==◌}
use Rattle.formula.specs.declared.operation.Operation.{Operation}
use Rattle.formula.specs.declared.operation.Operation.TheVariants.{Add, Sub, Mul, Div, Min, Max}
use Rattle.formula.specs.declared.operation.UnknownOperation.{UnknownOperation}

abbrev pub code_of : Operation → ℕ
code_of Add = 0
code_of Sub = 1
code_of Mul = 2
code_of Div = 3
code_of Min = 4
code_of Max = 5

-- the operation, if its code is the one asked for, and else the other answer
abbrev pub coded : ℕ → Operation → Option Operation → Option Operation
coded code op other = if code_of op == code then Some op else other

-- the operation of a code, none above 5
abbrev pub operation_of : ℕ → Option Operation
operation_of code = coded code Add (coded code Sub (coded code Mul (coded code Div (coded code Min (coded code Max None)))))

abbrev pub unknown_operation : ℕ → UnknownOperation
unknown_operation code = record { 0 = code }

-- the operation of a code, or the code that has none
abbrev pub decoded_operation : ℕ → Result Operation UnknownOperation
decoded_operation code = ok_or (operation_of code) (unknown_operation code)

abbrev pub name_of : Operation → List ℕ
name_of Add = codes "add"
name_of Sub = codes "sub"
name_of Mul = codes "mul"
name_of Div = codes "div"
name_of Min = codes "min"
name_of Max = codes "max"

abbrev pub unknown_text : ℕ → List ℕ
unknown_text code = codes "no operation has the code " ++ decimal code
