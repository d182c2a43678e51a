-- What a write! of texts.rt writes is the text that the definition says.
use Rattle.std.proofs.Common.{◌≡◌, ℕ, List, ◌++◌, append_assoc, ◌∙◌, sym, ap}
use Rattle.std.specs.Prelude.{codes, decimal}
use Rattle.scc_base.specs.Heads.{MessageHead, kind_at, kind_text}
use Rattle.scc_base.specs.Places.{WordAt}
use Rattle.scc_base.specs.declared.events.Spot.{Spot}
use Rattle.scc_base.specs.declared.events.Spot.TheVariants.{Flag, Register}
use Rattle.mpb_alloc.specs.declared.heap.MallocFault.TheVariants.{Full}
use Rattle.station.specs.Texts.{malloc_text, met_text, stall_text}

-- the text of a stall at a spot that is known
stalled_here : (call text : List ℕ) (polls : ℕ) (at here : Spot) → at ≡ here → text ≡ stall_text call here polls → text ≡ stall_text call at polls
stalled_here call text polls at here is same = same ∙ sym (ap (λ (x : Spot). stall_text call x polls) is)

-- what is written of a stall at a flag
abbrev pub flag_words : List ℕ → ℕ → ℕ → ℕ → ℕ → ℕ → List ℕ
flag_words call polls core line word bit = call ++ (codes " stalled after " ++ (decimal polls ++ (codes " tries at the flag of core " ++ (decimal core
    ++ (codes ", line " ++ (decimal line ++ (codes ", word " ++ (decimal word ++ (codes ", bit " ++ decimal bit)))))))))

flag_told : (call : List ℕ) (polls bit : ℕ) (place : WordAt) → flag_words call polls place.core place.line place.word bit ≡ stall_text call (Flag place bit) polls
flag_told call polls bit place = simp append_assoc

pub flag_words-stall_text : (call : List ℕ) (polls core line word bit : ℕ) (place : WordAt) (at : Spot) → at ≡ Flag place bit → core ≡ place.core → line ≡ place.line → word ≡ place.word → flag_words call polls core line word bit ≡ stall_text call at polls
flag_words-stall_text call polls core line word bit place at is c l w =
    stalled_here call (flag_words call polls core line word bit) polls at (Flag place bit) is ((λ i. flag_words call polls (c i) (l i) (w i) bit) ∙ flag_told call polls bit place)

-- what is written of a stall at a register
abbrev pub register_words : List ℕ → ℕ → ℕ → List ℕ
register_words call polls core = call ++ (codes " stalled after " ++ (decimal polls ++ (codes " tries at the register of core " ++ decimal core)))

register_told : (call : List ℕ) (polls core : ℕ) → register_words call polls core ≡ stall_text call (Register core) polls
register_told call polls core = simp append_assoc

pub register_words-stall_text : (call : List ℕ) (polls number core : ℕ) (at : Spot) → at ≡ Register core → number ≡ core → register_words call polls number ≡ stall_text call at polls
register_words-stall_text call polls number core at is same =
    stalled_here call (register_words call polls number) polls at (Register core) is ((λ i. register_words call polls (same i)) ∙ register_told call polls core)

-- what is written of a message that was met
abbrev pub met_words : List ℕ → List ℕ → ℕ → ℕ → List ℕ
met_words call kind comm len = call ++ (codes " met another message: sent " ++ (kind ++ (codes " " ++ (decimal comm ++ (codes " " ++ decimal len)))))

met_told : (call : List ℕ) (sent : MessageHead) → met_words call (kind_text (kind_at sent.kind)) sent.comm sent.len ≡ met_text call sent
met_told call sent = simp append_assoc

pub met_words-met_text : (call kind : List ℕ) (comm len : ℕ) (sent : MessageHead) → kind ≡ kind_text (kind_at sent.kind) → comm ≡ sent.comm → len ≡ sent.len → met_words call kind comm len ≡ met_text call sent
met_words-met_text call kind comm len sent k c l = (λ i. met_words call (k i) (c i) (l i)) ∙ met_told call sent

-- what is written of a heap that has no run so long
abbrev pub full_words : ℕ → ℕ → List ℕ
full_words asked longest = codes "a malloc asked " ++ (decimal asked ++ (codes " lines, longest run " ++ decimal longest))

pub full_words-malloc_text : (asked longest : ℕ) → full_words asked longest ≡ malloc_text (Full asked longest)
full_words-malloc_text asked longest = simp append_assoc
