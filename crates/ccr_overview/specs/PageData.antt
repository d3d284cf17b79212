-- The value of a page, without where it lies in memory.
use Rattle.std.specs.Prelude.{ℕ, List, [], ◌∷◌, ◌++◌, map, flat_map, Bool, Option, option_map, codes, decimal, string_bytes}
use Rattle.ccr_history.specs.Text.{Text}
use Rattle.ccr_page.specs.declared.data.Version.{Version}
use Rattle.ccr_page.specs.declared.data.Word.{Word}
use Rattle.ccr_page.specs.declared.data.Word.TheVariants as word
use Rattle.ccr_page.specs.declared.data.Urgency.{Urgency}
use Rattle.ccr_page.specs.declared.data.Why.{Why}
use Rattle.ccr_page.specs.declared.data.Bar.{Bar}
use Rattle.ccr_page.specs.declared.data.Cell.{Cell}
use Rattle.ccr_page.specs.declared.data.Row.{Row}
use Rattle.ccr_page.specs.declared.data.Port.{Port}
use Rattle.ccr_page.specs.declared.data.Job.{Job}
use Rattle.ccr_page.specs.declared.data.Resource.{Resource}
use Rattle.ccr_page.specs.declared.data.Arrow.{Arrow}
use Rattle.ccr_page.specs.declared.data.Page.{Page}
use Rattle.ccr_page.specs.declared.status.Status.{Status}

-- ---- words
-- a version: its fields as JSON, and in a few letters
pub record VersionData : Type 0 where
  pub key : Text
  pub short : Text

-- what a value of the page's type stands for
abbrev pub version_data : Version → VersionData
version_data v = record { key = string_bytes v.key; short = string_bytes v.short }

-- a word of a sentence: words as they are; a text, or a name, in so many units; a job, or a resource, by its position and its
-- name; a build that has a row, by its job's position, its number and its job's name; one that has none, by its job's name and
-- its number; a build that has a row, by its job's position, its number and these words; a version; a pin
pub data WordData : Type 0 where
  Plain : (words : Text) → WordData
  Cut : (words : Text) (most : ℕ) → WordData
  Named : (words : Text) (most : ℕ) → WordData
  ToJob : (position : ℕ) (words : Text) → WordData
  ToResource : (position : ℕ) (words : Text) → WordData
  ToBuild : (position number : ℕ) (words : Text) → WordData
  Past : (words : Text) (number : ℕ) → WordData
  ToRow : (position number : ℕ) (words : Text) → WordData
  Versioned : (v : VersionData) → WordData
  Pinned : (words : Text) → WordData

-- what a value of the page's type stands for
abbrev pub word_data : Word → WordData
word_data (word.Plain t) = Plain (string_bytes t)
word_data (word.Text t most) = Cut (string_bytes t) most
word_data (word.Name t most) = Named (string_bytes t) most
word_data (word.Job i t) = ToJob i (string_bytes t)
word_data (word.Resource i t) = ToResource i (string_bytes t)
word_data (word.Build i n t) = ToBuild i n (string_bytes t)
word_data (word.Past t n) = Past (string_bytes t) n
word_data (word.Row i n t) = ToRow i n (string_bytes t)
word_data (word.Version v) = Versioned (version_data v)
word_data (word.Pin t) = Pinned (string_bytes t)

-- what a word says, without the links
abbrev pub word_text : WordData → Text
word_text (Plain t) = t
word_text (Cut t most) = t
word_text (Named t most) = t
word_text (ToJob i t) = t
word_text (ToResource i t) = t
word_text (ToBuild i n t) = t ++ (codes " " ++ decimal n)
word_text (Past t n) = t ++ (codes " " ++ decimal n)
word_text (ToRow i n t) = t
word_text (Versioned v) = v.short
word_text (Pinned t) = t

-- WHAT WORDS SAY, without the links
abbrev pub said : List WordData → Text
said ws = flat_map word_text ws

-- ---- jobs
-- why a job stands still
pub record WhyData : Type 0 where
  pub urgency : Urgency
  pub words : List WordData

-- what a value of the page's type stands for
abbrev pub why_data : Why → WhyData
why_data w = record { urgency = w.urgency; words = map word_data w.words.items }

-- a place, and the version there in a few letters
pub record CellData : Type 0 where
  pub place : ℕ
  pub short : Text

-- what a value of the page's type stands for
abbrev pub cell_data : Cell → CellData
cell_data c = record { place = c.place; short = string_bytes c.short }

-- a build: what it took for each column, and in words what went together and what it put
pub record RowData : Type 0 where
  pub number : ℕ
  pub status : Status
  pub cells : List (Option CellData)
  pub rest : List WordData

-- what a value of the page's type stands for
abbrev pub row_data : Row → RowData
row_data r = record {
  number = r.number;
  status = r.status;
  cells = map (option_map cell_data) r.cells.items;
  rest = map word_data r.rest.items;
}

-- an input of a job
pub record PortData : Type 0 where
  pub resource : Text
  pub is_passed : Bool

-- what a value of the page's type stands for
abbrev pub port_data : Port → PortData
port_data p = record { resource = string_bytes p.resource; is_passed = p.is_passed }

-- a job
pub record PageJobData : Type 0 where
  pub name : Text
  pub status : Status
  pub number : ℕ
  pub ports : List PortData
  pub about : List WordData
  pub why : Option WhyData
  pub bars : List Bar
  pub columns : List Text
  pub rows : List RowData

-- what a value of the page's type stands for
abbrev pub page_job_data : Job → PageJobData
page_job_data j = record {
  name = string_bytes j.name;
  status = j.status;
  number = j.number;
  ports = map port_data j.ports.items;
  about = map word_data j.about.items;
  why = option_map why_data j.why;
  bars = j.bars.items;
  columns = map string_bytes j.columns.items;
  rows = map row_data j.rows.items;
}

-- ---- resources
-- a resource
pub record PageResourceData : Type 0 where
  pub name : Text
  pub kind : Text
  pub newest : Option VersionData
  pub version_count : ℕ
  pub pin : Option Text
  pub held : List WordData

-- what a value of the page's type stands for
abbrev pub page_resource_data : Resource → PageResourceData
page_resource_data r = record {
  name = string_bytes r.name;
  kind = string_bytes r.kind;
  newest = option_map version_data r.newest;
  version_count = r.version_count;
  pin = option_map string_bytes r.pin;
  held = map word_data r.held.items;
}

-- ---- the page
-- a page
pub record PageData : Type 0 where
  pub title : Text
  pub made : Option Text
  pub now : Option Text
  pub refresh : Option ℕ
  pub logs : Option Text
  pub has_pipeline : Bool
  pub row_count : ℕ
  pub jobs : List PageJobData
  pub resources : List PageResourceData
  pub arrows : List Arrow

-- what a value of the page's type stands for
abbrev pub page_data : Page → PageData
page_data p = record {
  title = string_bytes p.title;
  made = option_map string_bytes p.made;
  now = option_map string_bytes p.now;
  refresh = p.refresh;
  logs = option_map string_bytes p.logs;
  has_pipeline = p.has_pipeline;
  row_count = p.row_count;
  jobs = map page_job_data p.jobs.items;
  resources = map page_resource_data p.resources.items;
  arrows = p.arrows.items;
}
