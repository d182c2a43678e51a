use Rattle.std.proofs.Common.{subst, sym}
use Rattle.rank_monitor.specs.Following.{Decides}
use Rattle.rank_monitor.specs.Steps.{move_of}
use Rattle.rank_monitor.specs.declared.steps.Step.{Step}
use Rattle.rank_monitor.proofs.works.Work.permits.Goals as goal

pub returns-in-DraftHeader : goal.returns-in-DraftHeader
returns-in-DraftHeader c = record { decides = subst (λ (s : Step). Decides c.args.self.now (move_of s) c.may_draft_header.result) (sym c.in-DraftHeader.is) (c.may_draft_header.ensures.decides c.in-DraftHeader.word c.in-DraftHeader.value) }

pub returns-in-DraftChunk : goal.returns-in-DraftChunk
returns-in-DraftChunk c = record { decides = subst (λ (s : Step). Decides c.args.self.now (move_of s) c.may_draft_chunk.result) (sym c.in-DraftChunk.is) (c.may_draft_chunk.ensures.decides c.in-DraftChunk.word c.in-DraftChunk.value) }

pub returns-in-FlipGather : goal.returns-in-FlipGather
returns-in-FlipGather c = record { decides = subst (λ (s : Step). Decides c.args.self.now (move_of s) c.may_flip.result) (sym c.in-FlipGather.is) (c.may_flip.ensures.decides c.in-FlipGather.last) }

pub returns-in-WriteRelease : goal.returns-in-WriteRelease
returns-in-WriteRelease c = record { decides = subst (λ (s : Step). Decides c.args.self.now (move_of s) c.may_release.result) (sym c.in-WriteRelease.is) (c.may_release.ensures.decides c.in-WriteRelease.to) }

pub returns-in-StoreHeap : goal.returns-in-StoreHeap
returns-in-StoreHeap c = record { decides = subst (λ (s : Step). Decides c.args.self.now (move_of s) c.leaves_heap.result) (sym c.in-StoreHeap.is) (c.leaves_heap.ensures.decides c.in-StoreHeap.place c.in-StoreHeap.value) }
