pub mod SameWindow
