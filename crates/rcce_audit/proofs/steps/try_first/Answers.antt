use Rattle.std.proofs.Common.{◌∙◌, ℕ, List, ap, sym, slice_get, slice_index, option_map}
use Rattle.scc_base.specs.Calls.{DataCall, Send, Recv, Post, Bar}
use Rattle.rcce_audit.specs.Logs.{calls_at_rank}
use Rattle.rcce_audit.specs.Views.{data_lists, data_of}
use Rattle.rcce_audit.proofs.StepLemmas.{front_of, none_first, tries_first}
use Rattle.rcce_audit.proofs.steps.try_first.Goals as goal

pub returns-in-Some-Send : goal.returns-in-Some-Send
returns-in-Some-Send c =
    let lists = data_lists c.args.lists.now in
    let call : DataCall = Send c.in-Some-Send.to c.in-Some-Send.head c.as_slice.result.now in
    let front = front_of lists c.args.progress.now.next c.args.rank c.number.result (data_of c.in-Some-Send.field-0.now) call c.number.ensures.gives c.in-Some-Send.ensures (ap data_of c.in-Some-Send.field-0-is ∙ ap (λ (b : List ℕ). Send c.in-Some-Send.to c.in-Some-Send.head b) (sym c.as_slice.ensures)) in
    tries_first c.args.setup.now lists c.args.rank call c.args.progress.now c.try_pair.new.progress c.try_pair.result front c.try_pair.ensures

pub returns-in-Some-Recv : goal.returns-in-Some-Recv
returns-in-Some-Recv c =
    let lists = data_lists c.args.lists.now in
    let call : DataCall = Recv c.in-Some-Recv.from c.in-Some-Recv.head c.as_slice-in-Some-Recv.result.now in
    let front = front_of lists c.args.progress.now.next c.args.rank c.number.result (data_of c.in-Some-Recv.field-0.now) call c.number.ensures.gives c.in-Some-Recv.ensures (ap data_of c.in-Some-Recv.field-0-is ∙ ap (λ (b : List ℕ). Recv c.in-Some-Recv.from c.in-Some-Recv.head b) (sym c.as_slice-in-Some-Recv.ensures)) in
    tries_first c.args.setup.now lists c.args.rank call c.args.progress.now c.try_take.new.progress c.try_take.result front c.try_take.ensures

pub returns-in-Some-Post : goal.returns-in-Some-Post
returns-in-Some-Post c =
    let lists = data_lists c.args.lists.now in
    let call : DataCall = Post c.in-Some-Post.to c.in-Some-Post.field-0-1 c.in-Some-Post.field-0-2 in
    let front = front_of lists c.args.progress.now.next c.args.rank c.number.result (data_of c.in-Some-Post.field-0.now) call c.number.ensures.gives c.in-Some-Post.ensures (ap data_of c.in-Some-Post.field-0-is) in
    tries_first c.args.setup.now lists c.args.rank call c.args.progress.now c.try_post.new.progress c.try_post.result front (c.try_post.ensures c.in-Some-Post.field-0-1 c.in-Some-Post.field-0-2 front)

pub returns-in-Some-Bar : goal.returns-in-Some-Bar
returns-in-Some-Bar c =
    let lists = data_lists c.args.lists.now in
    let call : DataCall = Bar c.in-Some-Bar.comm in
    let front = front_of lists c.args.progress.now.next c.args.rank c.number.result (data_of c.in-Some-Bar.field-0.now) call c.number.ensures.gives c.in-Some-Bar.ensures (ap data_of c.in-Some-Bar.field-0-is) in
    tries_first c.args.setup.now lists c.args.rank call c.args.progress.now c.try_meet.new.progress c.try_meet.result front c.try_meet.ensures

pub returns-in-None : goal.returns-in-None
returns-in-None c =
    let none = sym (ap (option_map (λ call. data_of call.now)) c.in-None.is) ∙ c.first.ensures in
    none_first c.args.setup.now (data_lists c.args.lists.now) c.args.rank c.args.progress.now
    (sym (ap (λ (n : ℕ). slice_get (calls_at_rank (data_lists c.args.lists.now) n) (slice_index c.args.progress.now.next n)) c.number.ensures.gives) ∙ sym none)
