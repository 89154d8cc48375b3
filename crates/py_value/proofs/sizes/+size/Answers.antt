-- One pair more.
use Rattle.std.proofs.Common.{arith}
use Rattle.py_value.proofs.SizeLevels.{size_pairs_more}
use Rattle.py_value.proofs.sizes.+size.Goals as goal

pub size_of_pairs-loop-pair-preserved : goal.size_of_pairs-loop-pair-preserved
size_of_pairs-loop-pair-preserved t c = omega (arith, size_pairs_more c.args.pairs.now c.loop-pair.pair-index c.pair-item.result (omega arith) c.pair-item.is)
