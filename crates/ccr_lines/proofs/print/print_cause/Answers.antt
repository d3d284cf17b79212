use Rattle.ccr_lines.proofs.print.print_cause.Goals as goal

pub returns-in-RequestTooLong : goal.returns-in-RequestTooLong
returns-in-RequestTooLong g c = rw c.in-RequestTooLong.is c.print_refusal.ensures

pub returns-in-FolderFault : goal.returns-in-FolderFault
returns-in-FolderFault g c = rw c.in-FolderFault.is c.print_refusal-in-FolderFault.ensures

pub returns-in-NotStarted : goal.returns-in-NotStarted
returns-in-NotStarted g c = rw c.in-NotStarted.is c.print_refusal-in-NotStarted.ensures

pub returns-in-InputFault : goal.returns-in-InputFault
returns-in-InputFault g c = rw c.in-InputFault.is c.print_refusal-in-InputFault.ensures

pub returns-in-ReadFault : goal.returns-in-ReadFault
returns-in-ReadFault g c = rw c.in-ReadFault.is c.print_refusal-in-ReadFault.ensures

pub returns-in-OutputTooLong : goal.returns-in-OutputTooLong
returns-in-OutputTooLong g c = rw c.in-OutputTooLong.is c.print_refusal-in-OutputTooLong.ensures

pub returns-in-VersionNotText : goal.returns-in-VersionNotText
returns-in-VersionNotText g c = rw c.in-VersionNotText.is c.print_refusal-in-VersionNotText.ensures
