use Rattle.std.proofs.Common.{◌≡◌, ◌∙◌, ◌*◌, Bool, take, ap, sym, subst}
use Rattle.std.specs.Prelude.{slice_index}
use Rattle.slice_encoder.specs.Limits.{AreSizesTo}
use Rattle.slice_encoder.specs.Sizes.{SizesSeen, size_values, shown}
use Rattle.slice_encoder.proofs.JoinedLooks.{same_look}
use Rattle.slice_encoder.proofs.sizes.Sizes.look.Goals as goal

pub look_by-requires-clause-small : goal.look_by-requires-clause-small
look_by-requires-clause-small c = c.self.invariant.short_small c.if-self.true

pub look_by-requires-clause-top : goal.look_by-requires-clause-top
look_by-requires-clause-top c = subst (λ (v : SizesSeen). AreSizesTo c.self.inside.top (take (slice_index v.ends (3 * v.depth)) v.values)) c.self.view_is c.self.invariant.top_is

pub look_by-requires-clause-all : goal.look_by-requires-clause-all
look_by-requires-clause-all c =
    let i = c.self.inside in
    let is : i.short.items ≡ c.args.self.now.values = ap (λ (b : Bool). shown b i.short.items i.long.items) (sym c.if-self.true) ∙ ap (λ (v : SizesSeen). v.values) c.self.view_is in
    subst (AreSizesTo 32767) is c.self.invariant.short_all

pub look_by-requires-else-self-clause-small : goal.look_by-requires-else-self-clause-small
look_by-requires-else-self-clause-small c = c.self.invariant.small

pub look_by-requires-else-self-clause-top : goal.look_by-requires-else-self-clause-top
look_by-requires-else-self-clause-top c = subst (λ (v : SizesSeen). AreSizesTo c.self.inside.top (take (slice_index v.ends (3 * v.depth)) v.values)) c.self.view_is c.self.invariant.top_is

pub look_by-requires-else-self-clause-all : goal.look_by-requires-else-self-clause-all
look_by-requires-else-self-clause-all c =
    let i = c.self.inside in
    let is : i.long.items ≡ c.args.self.now.values = ap (λ (b : Bool). shown b i.short.items i.long.items) (sym c.if-self.false) ∙ ap (λ (v : SizesSeen). v.values) c.self.view_is in
    subst (AreSizesTo 2147483647) is c.self.invariant.long_all

pub returns-then-self : goal.returns-then-self
returns-then-self c = λ vs same. same_look c.look_by.result (size_values c.args.self.now c.args.index) vs same c.look_by.ensures

pub returns-else-self : goal.returns-else-self
returns-else-self c = λ vs same. same_look c.look_by-else-self.result (size_values c.args.self.now c.args.index) vs same c.look_by-else-self.ensures
