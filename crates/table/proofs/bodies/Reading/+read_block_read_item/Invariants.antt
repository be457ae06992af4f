-- The block reader and the item reader meet their contracts. The answer of a block from its start equals the answer
-- from the item that is read next, but for the scope; an item is its opening and then its blocks. The measure is twice the
-- depth left, and one more for the block reader; the loop's is the bytes left.
use Rattle.std.proofs.Common.{◌≡◌, ◌+◌, ◌-◌, ◌*◌, length}
use Rattle.table.specs.Laws.Readers.{block_answer, Ready}
use Rattle.table.proofs.ReaderLaws.{back}
use Rattle.table.proofs.bodies.Reading.+read_block_read_item.Given as goal

abbrev pub decreases-read_block : goal.decreases-read_block
decreases-read_block l = 2 * l.depth + 1

abbrev pub decreases-read_item : goal.decreases-read_item
decreases-read_item l = 2 * l.depth

abbrev pub invariant-read_block-loop-next : goal.invariant-read_block-loop-next
invariant-read_block-loop-next l = record {
  ready : Ready l.self.own l.p;
  same :
      block_answer l.self.counts.now l.self.section.now l.self.own l.start l.depth l.first
      ≡ back l.start.scope
      (block_answer l.self.counts.now l.self.section.now l.self.own l.p l.depth l.first);
}

abbrev pub decreases-read_block-loop-next : goal.decreases-read_block-loop-next
decreases-read_block-loop-next l = length l.self.section.now - l.p.at
