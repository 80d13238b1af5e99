-- What holds of all that a part of a line can say.
use Rattle.std.proofs.Common.{◌≡◌, ℕ, ◌≤◌, Bool, true, false, ◌&&◌, Option, Some, None, Result, Ok, Err, refl, nat_le, IfSome, IfOk, option_and_then, if◌then◌else◌}
use Rattle.std.proofs.lemmas.Bool.{leb-true}
use Rattle.serde_json.specs.Data.{unsigned, negative, Data, number}
use Rattle.yp_base.specs.Results.{◌>>=◌, or_fault}
use Rattle.yp_command.specs.declared.fault.ScriptKind.{ScriptKind}
use Rattle.yp_command.specs.declared.fault.ScriptKind.TheVariants as kinds
use Rattle.yp_command.specs.Faults.{Said, said_map, holding, together, both}
use Rattle.yp_command.specs.Words.{where_true, whole_said, whole_there}

pub map_is : {X Y : Type 0} (f : X → Y) (said : Said X) (P : X → Type 0) (Q : Y → Type 0) → IfOk said P → ((x : X) → P x → Q (f x)) → IfOk (said_map f said) Q
map_is f (Ok x) P Q is each = each x is
map_is f (Err kind) P Q is each = tt

-- whatever is said
pub map_any : {X Y : Type 0} (f : X → Y) (said : Said X) (Q : Y → Type 0) → ((x : X) → Q (f x)) → IfOk (said_map f said) Q
map_any f (Ok x) Q each = each x
map_any f (Err kind) Q each = tt

pub then_is : {X Y E : Type 0} (r : Result X E) (f : X → Result Y E) (P : X → Type 0) (Q : Y → Type 0) → IfOk r P → ((x : X) → P x → IfOk (f x) Q) → IfOk (r >>= f) Q
then_is (Ok x) f P Q is each = each x is
then_is (Err e) f P Q is each = tt

-- a part that is said has passed its test
pub if_is : {X : Type 0} (kind : ScriptKind) (b : Bool) (said : Said X) (P : X → Type 0) → (b ≡ true → IfOk said P) → IfOk (if b then said else Err kind) P
if_is kind true said P is = is refl
if_is kind false said P is = tt

pub or_is : {X E : Type 0} (e : E) (o : Option X) (P : X → Type 0) → IfSome o P → IfOk (or_fault e o) P
or_is e None P is = tt
or_is e (Some x) P is = is

pub together_is : {X Y Z : Type 0} (f : X → Y → Z) (a : Said X) (b : Said Y) (Q : Y → Type 0) (R : Z → Type 0) → IfOk b Q → ((x : X) (y : Y) → Q y → R (f x y)) → IfOk (together f a b) R
together_is f (Ok x) (Ok y) Q R is each = each x y is
together_is f (Ok x) (Err kind) Q R is each = tt
together_is f (Err kind) (Ok y) Q R is each = tt
together_is f (Err kind) (Err other) Q R is each = tt

pub both_are : {X Y : Type 0} (a : Said X) (b : Said Y) (P : X → Type 0) (Q : Y → Type 0) (R : X × Y → Type 0) → IfOk a P → IfOk b Q → ((x : X) (y : Y) → P x → Q y → R (x, y)) → IfOk (both a b) R
both_are (Ok x) (Ok y) P Q R is are each = each x y is are
both_are (Ok x) (Err kind) P Q R is are each = tt
both_are (Err kind) (Ok y) P Q R is are each = tt
both_are (Err kind) (Err other) P Q R is are each = tt

pub any_said : {X : Type 0} (said : Said X) → IfOk said (λ x. Unit {0})
any_said (Ok x) = tt
any_said (Err kind) = tt

-- a part that is said has passed its test
pub holding_is : {X : Type 0} (kind : ScriptKind) (b : Bool) (said : Said X) (P : X → Type 0) → (b ≡ true → IfOk said P) → IfOk (holding kind b said) P
holding_is kind true said P is = is refl
holding_is kind false (Ok x) P is = tt
holding_is kind false (Err other) P is = tt

tested : {X : Type 0} (test : X → Bool) (x : X) (b : Bool) → test x ≡ b → IfSome (if b then Some x else None) (λ x. test x ≡ true)
tested test x true is = is
tested test x false is = tt

pub where_is : {X : Type 0} (test : X → Bool) (o : Option X) → IfSome (where_true test o) (λ x. test x ≡ true)
where_is test None = tt
where_is test (Some x) = tested test x (test x) refl

pub itself_is : {X : Type 0} (o : Option X) → IfSome o (λ x. o ≡ Some x)
itself_is None = tt
itself_is (Some x) = refl

pub then_some : {X Y : Type 0} (f : X → Option Y) (o : Option X) (P : Y → Type 0) → ((x : X) → IfSome (f x) P) → IfSome (option_and_then f o) P
then_some f None P each = tt
then_some f (Some x) P each = each x

-- ---- whole numbers

bounded_at : (low high n : ℕ) (b c : Bool) → nat_le low n ≡ b → nat_le n high ≡ c → IfOk {E = ScriptKind} (if b && c then Ok n else Err kinds.Limit) (λ n. (low ≤ n) × (n ≤ high))
bounded_at low high n true true from to = (leb-true low n from, leb-true n high to)
bounded_at low high n true false from to = tt
bounded_at low high n false c from to = tt

pub whole_is : (low high : ℕ) (json : Data) → IfOk (whole_said low high json) (λ n. (low ≤ n) × (n ≤ high))
whole_is low high (number (unsigned n)) = bounded_at low high n (nat_le low n) (nat_le n high) refl refl
whole_is low high (number (negative z)) = tt
whole_is low high other = tt

pub whole_there_is : (low high : ℕ) (json : Option Data) → IfOk (whole_there low high json) (λ n. (low ≤ n) × (n ≤ high))
whole_there_is low high None = tt
whole_there_is low high (Some json) = whole_is low high json
