use Rattle.std.proofs.Common.{◌≡◌, ◌-◌, None}
use Rattle.values.specs.Search.{rise_in, rise_from}
use Rattle.values.proofs.search.first_rise.Given as goal

abbrev pub invariant-loop-bit : goal.invariant-loop-bit
invariant-loop-bit l = record {
  none : l.found ≡ None;
  rest : rise_in l.i l.width 0 l.initial.o l.initial.n ≡ rise_in l.i (l.width - l.bit) l.bit l.o l.n;
}

abbrev pub invariant-cells : goal.invariant-cells
invariant-cells l = record {
  none : l.found ≡ None;
  can : (goal.iterator-cells).can_next l.i-iterator;
  finite : (goal.iterator-cells).is_finite l.i-iterator;
  rest : rise_from l.width 0 l.old l.new ≡ rise_from l.width l.i-iterator.count l.i-iterator.iter.a.rest.now l.i-iterator.iter.b.rest.now;
}
