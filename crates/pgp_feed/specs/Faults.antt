-- The numbers of faults.
use Rattle.std.specs.Prelude.{ℕ}
use Rattle.pgp_feed.specs.declared.fault.MakeFault.{MakeFault}
use Rattle.pgp_feed.specs.declared.fault.MakeFault.TheVariants as make
use Rattle.pgp_feed.specs.declared.fault.ReadFault.{ReadFault}
use Rattle.pgp_feed.specs.declared.fault.ReadFault.TheVariants as read

abbrev pub make_fault_number : MakeFault → ℕ
make_fault_number make.Memory = 51
make_fault_number make.NoReader = 52

abbrev pub read_fault_number : ReadFault → ℕ
read_fault_number read.Memory = 51
read_fault_number read.NoReader = 52
