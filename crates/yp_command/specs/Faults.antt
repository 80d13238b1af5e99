-- The kinds of a line's faults, their numbers, and which of a line's faults is told: the least.
use Rattle.std.specs.Prelude.{ℕ, Bool, true, false, Result, Ok, Err, if◌then◌else◌, nat_le}
use Rattle.yp_command.specs.declared.fault.ScriptKind.{ScriptKind}
use Rattle.yp_command.specs.declared.fault.ScriptKind.TheVariants.{TooLong, NotJson, UnknownCommand, Member, Schema, Policy, Patch, Order, Limit, Instant}

abbrev pub fault_number : ScriptKind → ℕ
fault_number TooLong = 1
fault_number NotJson = 2
fault_number UnknownCommand = 3
fault_number Member = 4
fault_number Schema = 5
fault_number Policy = 6
fault_number Patch = 7
fault_number Order = 8
fault_number Limit = 9
fault_number Instant = 10

-- of two faults the one with the lesser number
abbrev pub least : ScriptKind → ScriptKind → ScriptKind
least kind other = if nat_le (fault_number kind) (fault_number other) then kind else other

-- what a line or a part of it says, or the least of its faults
abbrev pub Said : Type 0 → Type 0
Said X = Result X ScriptKind

abbrev pub said_map : {X Y : Type 0} → (X → Y) → Said X → Said Y
said_map f (Ok x) = Ok (f x)
said_map f (Err kind) = Err kind

-- what has this fault says nothing, and of its faults the least is told
abbrev pub with_fault : {X Y : Type 0} → ScriptKind → Said X → Said Y
with_fault kind (Ok x) = Err kind
with_fault kind (Err other) = Err (least kind other)

-- a part that has this fault too where a test fails
abbrev pub holding : {X : Type 0} → ScriptKind → Bool → Said X → Said X
holding kind true said = said
holding kind false said = with_fault kind said

-- what two parts say together; where both have faults, the least of them
abbrev pub together : {X Y Z : Type 0} → (X → Y → Z) → Said X → Said Y → Said Z
together f (Ok x) said = said_map (f x) said
together f (Err kind) said = with_fault kind said

-- both of two parts
abbrev pub both : {X Y : Type 0} → Said X → Said Y → Said (X × Y)
both said other = together (λ x y. (x, y)) said other
