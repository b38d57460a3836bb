-- Which refusal a new store answers.
use Rattle.std.specs.Prelude.{Bool, true, false, Ok, Err, Result}
use Rattle.cold.specs.declared.store.NewStoreError.{NewStoreError}
use Rattle.cold.specs.declared.store.NewStoreError.TheVariants.{Limit, Memory}

-- refused for its limit
abbrev pub refused_limit : {S : Type 0} → Result S NewStoreError → Bool
refused_limit (Ok s) = false
refused_limit (Err Limit) = true
refused_limit (Err Memory) = false
