use Rattle.std.proofs.Common.{◌≡◌, ℕ, ◌+◌, ◌*◌, ◌<◌, ◌≤◌, Bool, List, refl, sym, ◌∙◌, ap, subst, if◌then◌else◌, lt-ltb, le-ltb}
use Rattle.scc_base.specs.Places.{LineAt}
use Rattle.scc_base.specs.Layouts.{chunk_size, first_chunk}
use Rattle.scc_base.specs.declared.layouts.Layout.{Layout}
use Rattle.scc_proto.specs.Ports.{Sight}
use Rattle.put_get.specs.Cores.{Private, WritesLine}
use Rattle.send_recv.specs.declared.stages.SendStage.{SendStage}
use Rattle.send_recv.specs.declared.stages.SendStage.TheVariants.{Lines}
use Rattle.send_recv.specs.Bytes.{words_at}
use Rattle.send_recv.specs.Chunks.{chunk_start, chunk_lines_of}
use Rattle.send_recv.specs.Ops.{SendAt}
use Rattle.send_recv.specs.Sights.{first_byte, own_chunk_line, words_of_line, chunk_at}
use Rattle.send_recv.specs.Steps.{own_core, after_written, before_raise}
use Rattle.send_recv.proofs.sends.SendOp.write_line.Goals as goal

-- Answered by name: no search has to find how the line and its words are put together.

-- the line that was written is the one of the own chunk, and its words are the message's
writes_at : (s t : Sight) (c after : Private) (op now : SendAt) (bytes : List ℕ) (line core first start : ℕ) (layout : Layout) (at : LineAt) (words : List ℕ)
    → at ≡ record { core = core; line = first + line } → core ≡ own_core s.seat → first ≡ first_chunk layout → start ≡ chunk_start (chunk_size layout) now.chunk → words ≡ words_at bytes (start + 32 * line)
    → layout ≡ s.seat.setup.layout → now ≡ op → WritesLine s c at words t after → WritesLine s c (own_chunk_line s line) (words_of_line bytes s op.chunk line) t after
writes_at s t c after op now bytes line core first start layout at words is own lines starts has same seen writes =
    let first_is : first ≡ first_chunk s.seat.setup.layout = lines ∙ ap first_chunk same in
    let start_is : start + 32 * line ≡ first_byte s op.chunk line =
    ap (λ (x : ℕ). x + 32 * line) (starts ∙ ap (λ (l : Layout). chunk_start (chunk_size l) now.chunk) same ∙ ap (λ (x : SendAt). chunk_start (chunk_at s) x.chunk) seen) in
    subst (λ (w : List ℕ). WritesLine s c (own_chunk_line s line) w t after) (has ∙ ap (words_at bytes) start_is)
    (subst (λ (l : LineAt). WritesLine s c l words t after) (is ∙ (λ p. record { core = own p; line = first_is p + line })) writes)

-- how many lines the chunk has
lines_are : (op now : SendAt) (len lines : ℕ) (layout same_layout : Layout) → lines ≡ chunk_lines_of (chunk_size layout) len now.chunk → len ≡ now.head.len → layout ≡ same_layout → now ≡ op
    → lines ≡ chunk_lines_of (chunk_size same_layout) op.head.len op.chunk
lines_are op now len lines layout same_layout is told same seen =
    is ∙ ap (λ (l : Layout). chunk_lines_of (chunk_size l) len now.chunk) same ∙ ap (λ (x : ℕ). chunk_lines_of (chunk_size same_layout) x now.chunk) told
    ∙ ap (λ (x : SendAt). chunk_lines_of (chunk_size same_layout) x.head.len x.chunk) seen

more_lines : (layout : Layout) (line lines : ℕ) (op now : SendAt) → lines ≡ chunk_lines_of (chunk_size layout) op.head.len op.chunk → line + 1 < lines → now ≡ record op { stage = Lines (line + 1) }
    → now ≡ after_written layout line op
more_lines layout line lines op now are more is =
    is ∙ ap (λ (b : Bool). record op { stage = if b then Lines (line + 1) else before_raise layout }) (sym (lt-ltb (line + 1) (chunk_lines_of (chunk_size layout) op.head.len op.chunk) (subst (λ (x : ℕ). line + 1 < x) are more)))

no_more_lines : (layout : Layout) (line lines : ℕ) (op now : SendAt) → lines ≡ chunk_lines_of (chunk_size layout) op.head.len op.chunk → lines ≤ line + 1 → now ≡ record op { stage = before_raise layout }
    → now ≡ after_written layout line op
no_more_lines layout line lines op now are none is =
    is ∙ ap (λ (b : Bool). record op { stage = if b then Lines (line + 1) else before_raise layout }) (sym (le-ltb (line + 1) (chunk_lines_of (chunk_size layout) op.head.len op.chunk) (subst (λ (x : ℕ). x ≤ line + 1) are none)))

pub returns-then-line-lines_in-clause-writes : goal.returns-then-line-lines_in-clause-writes
returns-then-line-lines_in-clause-writes g c =
    writes_at (g.P.Port.sight c.args.port.now) (g.P.Port.sight c.line_write.new.port) c.args.core.now c.line_write.new.self c.args.self.now _ c.args.bytes.now c.args.line c.own_core.result c.first_chunk_line.result c.start_of.result c.layout_of-layout.result c.new-at.result c.line_from.result
    c.new-at.ensures.gives c.own_core.ensures.gives c.first_chunk_line.ensures.gives c.start_of.ensures.gives c.line_from.ensures.gives c.layout_of-layout.ensures.gives c.self.view_is c.line_write.ensures.writes

pub returns-then-line-lines_in-clause-next : goal.returns-then-line-lines_in-clause-next
returns-then-line-lines_in-clause-next g c =
    more_lines (g.P.Port.sight c.args.port.now).seat.setup.layout c.args.line c.lines_in.result c.args.self.now _
    (lines_are c.args.self.now _ c.len.result c.lines_in.result c.layout_of-layout.result (g.P.Port.sight c.args.port.now).seat.setup.layout c.lines_in.ensures.gives c.len.ensures.gives c.layout_of-layout.ensures.gives c.self.view_is)
    c.if-line-lines_in.true (ap (λ (x : SendAt). record x { stage = Lines (c.args.line + 1) }) c.self.view_is)

pub returns-then-line-lines_in-clause-answers : goal.returns-then-line-lines_in-clause-answers
returns-then-line-lines_in-clause-answers g c = refl

pub returns-clause-writes : goal.returns-clause-writes
returns-clause-writes g c =
    writes_at (g.P.Port.sight c.args.port.now) (g.P.Port.sight c.line_write.new.port) c.args.core.now c.line_write.new.self c.args.self.now _ c.args.bytes.now c.args.line c.own_core.result c.first_chunk_line.result c.start_of.result c.layout_of-layout.result c.new-at.result c.line_from.result
    c.new-at.ensures.gives c.own_core.ensures.gives c.first_chunk_line.ensures.gives c.start_of.ensures.gives c.line_from.ensures.gives c.layout_of-layout.ensures.gives c.self.view_is c.line_write.ensures.writes

pub returns-clause-next : goal.returns-clause-next
returns-clause-next g c =
    no_more_lines (g.P.Port.sight c.args.port.now).seat.setup.layout c.args.line c.lines_in.result c.args.self.now _
    (lines_are c.args.self.now _ c.len.result c.lines_in.result c.layout_of-layout.result (g.P.Port.sight c.args.port.now).seat.setup.layout c.lines_in.ensures.gives c.len.ensures.gives c.layout_of-layout.ensures.gives c.self.view_is)
    c.if-line-lines_in.false (ap (λ (x : SendAt). record x { stage = c.after_lines-self-inside.result }) c.self.view_is
    ∙ ap (λ (x : SendStage). record c.args.self.now { stage = x }) (c.after_lines-self-inside.ensures.gives ∙ ap before_raise c.layout_of-layout.ensures.gives))

pub returns-clause-answers : goal.returns-clause-answers
returns-clause-answers g c = refl
