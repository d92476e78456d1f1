-- The number of each fault.
use Rattle.std.specs.Prelude.{ℕ}
use Rattle.hosts.specs.declared.fault.Fault.{Fault}
use Rattle.hosts.specs.declared.fault.Fault.TheVariants.{MemoryShort, InputTooLong}

abbrev pub number_of : Fault → ℕ
number_of MemoryShort = 23
number_of InputTooLong = 24
