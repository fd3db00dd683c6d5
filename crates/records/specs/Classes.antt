-- Classes of answers and their numbers.
use Rattle.std.specs.Prelude.{◌≡◌, ℕ, Result, Ok, Err, false}
use Rattle.definitions.specs.Limits.{class_optimal, class_unbounded, class_infeasible}
use Rattle.definitions.specs.AnswerRecord.{known_class}
use Rattle.records.specs.declared.class.Class.{Class}
use Rattle.records.specs.declared.class.Class.TheVariants.{Optimal, Unbounded, Infeasible}
use Rattle.records.specs.declared.class.NoClass.{NoClass}

-- The number of a class.
abbrev pub class_number : Class → ℕ
class_number Optimal = class_optimal
class_number Unbounded = class_unbounded
class_number Infeasible = class_infeasible

-- The class with a number, where it is one.
abbrev pub ClassOf : ℕ → Result Class NoClass → Type 0
ClassOf number (Ok class) = number ≡ class_number class
ClassOf number (Err e) = known_class number ≡ false
