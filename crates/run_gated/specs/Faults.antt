-- What a fault of the board is to a run.
use Rattle.std.specs.Prelude.{ℕ}
use Rattle.ordered_commit.specs.declared.fault.PoolFault.{PoolFault}
use Rattle.ordered_commit.specs.declared.fault.PoolFault.TheVariants as pool
use Rattle.script_gate_trait.specs.declared.gate.GateFault.{GateFault}
use Rattle.script_gate_trait.specs.declared.gate.GateFault.TheVariants.{Failed as GateFailed, Memory as GateMemory}
use Rattle.edge_io.specs.declared.sink.OpenFault.{OpenFault}
use Rattle.edge_io.specs.declared.sink.OpenFault.TheVariants.{Failed as OpenFailed, Memory as OpenMemory}
use Rattle.run_gated.specs.declared.fault.RunFault.{RunFault}
use Rattle.run_gated.specs.declared.fault.RunFault.TheVariants.{Script, Journal, Memory}

-- the fault that ended the work on the board
abbrev pub fault_kept : PoolFault → RunFault
fault_kept (pool.Script worker) = Script worker
fault_kept pool.Journal = Journal
fault_kept (pool.Memory memory) = Memory memory

-- that of the gate of this worker, which wasn't opened, and of a journal
abbrev pub fault_of : ℕ → GateFault → RunFault
fault_of worker GateFailed = Script worker
fault_of worker (GateMemory memory) = Memory memory

abbrev pub fault_of_opening : OpenFault → RunFault
fault_of_opening OpenFailed = Journal
fault_of_opening (OpenMemory memory) = Memory memory
