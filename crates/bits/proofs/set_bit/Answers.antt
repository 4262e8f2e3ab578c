-- `bits::set_bit` meets its contract.
-- Assumes nothing.
use Prim.Native.Nat.{◌+◌, ◌/◌}
use Rattle.bits.proofs.Laws.{set_fits, set_from, kept_from}
use Rattle.bits.proofs.set_bit.Goals as goal

pub overflow_add-words : goal.overflow_add-words
overflow_add-words c =
    record { fits = set_fits c.args.words.now c.args.base c.args.n c.requires (c.items_fit (c.args.base + c.args.n / 32)).fits c.if-w-k-eq0.true }

pub returns-then-w-k-eq0 : goal.returns-then-w-k-eq0
returns-then-w-k-eq0 c = set_from c.args.words.now c.args.base c.args.n c.requires c.if-w-k-eq0.true

pub returns-else-w-k-eq0 : goal.returns-else-w-k-eq0
returns-else-w-k-eq0 c = kept_from c.args.words.now c.args.base c.args.n c.requires c.if-w-k-eq0.false
