use Rattle.draft_laws.proofs.FileCutPointer.{file_cut_in_place, file_cut_by_pointer}
use Rattle.draft_laws.proofs.files.file_cut_by_pointer.Goals as goal

pub returns-clause-cleared : goal.returns-clause-cleared
returns-clause-cleared c g base taken change hands after i j n u d file draft has is type has_pointer smaller size high direct indirect some fits all_past count held old =
    file_cut_by_pointer g base taken change hands after i j u d file draft has is type has_pointer smaller size high direct indirect n some fits all_past count held old

pub returns-clause-in_place : goal.returns-clause-in_place
returns-clause-in_place c g base taken change hands i j u d file draft has is type has_pointer smaller size high direct indirect count all_past =
    file_cut_in_place g base taken change hands hands i j u d file draft has is type has_pointer smaller size high direct indirect count all_past
