use Rattle.views.proofs.CutLaws.{windows-by_cut}
use Rattle.views.proofs.slots.windows_go_by_slices.Goals as goal

pub returns : goal.returns
returns c = windows-by_cut
