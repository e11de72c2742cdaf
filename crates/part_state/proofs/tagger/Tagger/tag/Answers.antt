use Rattle.std.proofs.Common.{◌≡◌, ◌∙◌, sym, refl, ap, ap₂, List}
use Rattle.queryset_lanes.specs.Slots.{meets}
use Rattle.views.specs.Slots.{Holder, set_of}
use Rattle.part_state.specs.Keeping.{keeping}
use Rattle.part_state.proofs.KeepLaws.{kept-wanted}
use Rattle.part_state.proofs.StandingLaws.{owners-by}
use Rattle.part_state.proofs.tagger.Tagger.tag.Goals as goal

pub returns : goal.returns
returns c = λ s p past epochs was kept later of low.
    let moved = c.advance_to.ensures s p.changes epochs was kept later in
    let set : c.tag-set.result ≡ set_of p.holders c.args.r.now =
    c.tag-set.ensures.set p.changes c.args.r.now moved.0.columns (of ∙ sym moved.0.stream) past.orderly refl low moved.1
    ∙ ap (λ (hs : List Holder). set_of hs c.args.r.now) (sym past.made) in (
      moved.0,
      moved.1,
      record {
        set = set;
        kept = c.meet-is_kept.ensures ∙ ap₂ meets set (moved.0.keepers ∙ ap (keeping p.changes) moved.1) ∙ kept-wanted p c.args.r.now past low (owners-by p c.args.r.now.given.time past low);
        epoch = c.epoch.ensures ∙ moved.1;
      },
    )
