-- `plan::Plan::hold` meets its contract: each list fits its place, and stays there, as the next begins behind it. Assumes nothing.
use mathlib.Core.Path.{◌∙◌}
use native.Mathlib.Omega.{arith}
use Rattle.plan.proofs.Filling.{held_fill, kept_fill, held_then, kept_then}
use Rattle.plan.proofs.PlanLaws.{planned-is}
use Rattle.plan.proofs.Plan.hold.Goals as goal

pub returns : goal.returns
returns c =
    let from-log = kept_fill c.fill-15.ensures in
    let from-most = kept_then (kept_fill c.fill-14.ensures) from-log (omega arith) in
    let from-least = kept_then (kept_fill c.fill-13.ensures) from-most (omega arith) in
    let from-link-labels = kept_then (kept_fill c.fill-12.ensures) from-least (omega arith) in
    let from-link-outputs = kept_then (kept_fill c.fill-11.ensures) from-link-labels (omega arith) in
    let from-link-inputs = kept_then (kept_fill c.fill-10.ensures) from-link-outputs (omega arith) in
    let from-numbers = kept_then (kept_fill c.fill-9.ensures) from-link-inputs (omega arith) in
    let from-link-first = kept_then (kept_fill c.fill-8.ensures) from-numbers (omega arith) in
    let from_First = kept_then (kept_fill c.fill-7.ensures) from-link-first (omega arith) in
    let from-observable = kept_then (kept_fill c.fill-6.ensures) from_First (omega arith) in
    let from-lower = kept_then (kept_fill c.fill-5.ensures) from-observable (omega arith) in
    let from-higher = kept_then (kept_fill c.fill-4.ensures) from-lower (omega arith) in
    let from-labels = kept_then (kept_fill c.fill-3.ensures) from-higher (omega arith) in
    let from-outputs = kept_then (kept_fill c.fill-2.ensures) from-labels (omega arith) in
    planned-is c.requires
    (record {
      all = from-log.all;
      inputs = held_then (held_fill c.fill.ensures) from-outputs (omega arith);
      outputs = held_then (held_fill c.fill-2.ensures) from-labels (omega arith);
      labels = held_then (held_fill c.fill-3.ensures) from-higher (omega arith);
      higher = held_then (held_fill c.fill-4.ensures) from-lower (omega arith);
      lower = held_then (held_fill c.fill-5.ensures) from-observable (omega arith);
      observable = held_then (held_fill c.fill-6.ensures) from_First (omega arith);
      first = held_then (held_fill c.fill-7.ensures) from-link-first (omega arith);
      link_first = held_then (held_fill c.fill-8.ensures) from-numbers (omega arith);
      numbers = held_then (held_fill c.fill-9.ensures) from-link-inputs (omega arith);
      link_inputs = held_then (held_fill c.fill-10.ensures) from-link-outputs (omega arith);
      link_outputs = held_then (held_fill c.fill-11.ensures) from-link-labels (omega arith);
      link_labels = held_then (held_fill c.fill-12.ensures) from-least (omega arith);
      least = held_then (held_fill c.fill-13.ensures) from-most (omega arith);
      most = held_then (held_fill c.fill-14.ensures) from-log (omega arith);
      log = held_fill c.fill-15.ensures;
    })
