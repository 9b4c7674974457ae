pub mod PutTexts
