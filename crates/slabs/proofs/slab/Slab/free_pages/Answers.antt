use Rattle.std.proofs.Common.{arith}
use Rattle.slabs.proofs.Pages.{given_few}
use Rattle.slabs.proofs.slab.Slab.free_pages.Goals as goal

pub overflow_sub-result : goal.overflow_sub-result
overflow_sub-result c = omega (arith, given_few c.args.self.now c.requires)

pub returns : goal.returns
returns c = omega (arith, given_few c.args.self.now c.requires)
