use Rattle.std.proofs.Common.{◌-◌, Some, length, take, ap, ◌∙◌}
use Rattle.std.specs.Prelude.{min}
use Rattle.edge_io.specs.MemSink.{CutState, SinkState, after_failed_put}
use Rattle.edge_io.specs.Sink.{with_piece}
use Rattle.edge_io.proofs.cut_sink.CutSinkSink.put.Goals as goal

pub returns-then-is_next_to_fail-clause-grew : goal.returns-then-is_next_to_fail-clause-grew
returns-then-is_next_to_fail-clause-grew c =
    let count = min c.self.inside.part (c.self.inside.sink.capacity - length c.self.inside.sink.put.bytes) in
    let added = ap (λ (s : SinkState). s.put) (c.count_fault.ensures.counted ∙ ap after_failed_put c.add_start.ensures) in
    let same = ap (λ (s : CutState). with_piece (take count c.args.piece.now) s.sink.put) c.self.view_is in
    (count, ap Some (added ∙ same))
