-- Faults that are answered.
use Rattle.std.proofs.Common.{◌≡◌, refl}
use Rattle.std.specs.Prelude.{Result, Err}
use Rattle.yp_data_json.specs.declared.fault.DataFault.{DataFault}
use Rattle.yp_data_json.specs.declared.fault.DataFault.TheVariants.{UnknownElement, InvalidValue, MissingKey, RepeatedKey, Memory}
use Rattle.yp_data_json.specs.Reading.{Fails}

-- a fault but want of memory is that of the reading
pub fault_is : {X : Type 0} (e : DataFault) (read : Result X DataFault) → Fails e read → (e ≡ Memory → ⊥) → read ≡ Err e
fault_is UnknownElement read h not = h
fault_is InvalidValue read h not = h
fault_is MissingKey read h not = h
fault_is RepeatedKey read h not = h
fault_is Memory read h not = absurd (not refl)

-- a fault of the reading may be answered
pub may_fail : {X : Type 0} (e : DataFault) (read : Result X DataFault) → read ≡ Err e → Fails e read
may_fail UnknownElement read h = h
may_fail InvalidValue read h = h
may_fail MissingKey read h = h
may_fail RepeatedKey read h = h
may_fail Memory read h = tt
