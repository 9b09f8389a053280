-- A draft that is lent to a call, as the draft that it is.
use Rattle.drafts.specs.Draft.{Draft, draft}
use Rattle.drafts.specs.declared.draft.Draft.{Draft as LentDraft}

abbrev pub lent : LentDraft → Draft
lent d = draft d.tags.now d.lens.now d.data.now
