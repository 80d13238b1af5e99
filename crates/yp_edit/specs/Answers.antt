-- What a call answers or leaves: what the definition gives, but where memory ran out.
use Rattle.std.specs.Prelude.{◌≡◌, ℕ, ◌<◌, List, Result, Ok, Err}
use Rattle.yp_base.specs.declared.row.Row.{Row}
use Rattle.yp_edit.specs.declared.halt.Refusal.{Refusal}
use Rattle.yp_edit.specs.declared.halt.Halt.{Halt}
use Rattle.yp_edit.specs.declared.halt.Halt.TheVariants as halt
use Rattle.yp_edit.specs.declared.fault.EditFault.{EditFault}
use Rattle.yp_edit.specs.declared.fault.EditFault.TheVariants.{Refused, Memory}
use Rattle.yp_edit.specs.Patches.{RefusedEdit}

-- ---- of an edit

-- what is answered is what the definition gives
abbrev pub Says : {X : Type 0} → Result X Halt → Result X Refusal → Type 0
Says (Ok x) given = given ≡ Ok x
Says (Err (halt.Refused refusal)) given = given ≡ Err refusal
Says (Err halt.Memory) given = Unit {0}

-- the rows that are left are what the definition gives
abbrev pub Leaves : {X : Type 0} → Result X Halt → List Row → Result (List Row) Refusal → Type 0
Leaves (Ok x) after given = given ≡ Ok after
Leaves (Err (halt.Refused refusal)) after given = given ≡ Err refusal
Leaves (Err halt.Memory) after given = Unit {0}

-- ---- of a patch

-- what is answered is what the definition gives
abbrev pub SaysAll : {X : Type 0} → Result X EditFault → Result X RefusedEdit → Type 0
SaysAll (Ok x) given = given ≡ Ok x
SaysAll (Err (Refused edit tag path)) given = given ≡ Err (record { number = edit; tag = tag; path = path })
SaysAll (Err Memory) given = Unit {0}

-- the rows that are left are what the definition gives
abbrev pub LeavesAll : {X : Type 0} → Result X EditFault → List Row → Result (List Row) RefusedEdit → Type 0
LeavesAll (Ok x) after given = given ≡ Ok after
LeavesAll (Err (Refused edit tag path)) after given = given ≡ Err (record { number = edit; tag = tag; path = path })
LeavesAll (Err Memory) after given = Unit {0}

-- a refusal names one of so many edits, which are counted from 0
abbrev pub NamesOneOf : {X : Type 0} → Result X EditFault → ℕ → Type 0
NamesOneOf (Ok x) count = Unit {0}
NamesOneOf (Err (Refused edit tag path)) count = edit < count
NamesOneOf (Err Memory) count = Unit {0}
